-- Calls of a scan that are listed.
use Rattle.std.specs.Prelude.{◌≡◌, ℕ, true, false, List, [], ◌∷◌, ◌++◌, Option, Some, None}
use Rattle.sp_model.specs.declared.scan.Access.{Access}
use Rattle.sp_model.specs.declared.scan.Access.TheVariants.{Get, List as OfList, Parents}
use Rattle.row_flight.specs.Jobs.{IsAllListed, Lists}
use Rattle.row_flight.specs.declared.frame.Wanted.{Wanted}
use Rattle.scan_core.specs.declared.calls.ItemsCall.{ItemsCall}
use Rattle.scan_core.specs.declared.calls.OpenCall.{OpenCall}
use Rattle.scan_core.specs.declared.calls.ParentsCall.{ParentsCall}
use Rattle.scan_core.specs.declared.course.Course.{Course}
use Rattle.scan_core.specs.declared.scope.ScanScope.{ScanScope}

-- the numbers of a call's slot and function: 64 is the get, list or parents call, 65 a child list
abbrev pub items_slot : Access → ℕ
items_slot Get = 0
items_slot OfList = 0
items_slot Parents = 1

abbrev pub items_function : Access → ℕ
items_function Get = 64
items_function OfList = 64
items_function Parents = 65

-- the present attempt of a call, who waits for it, and the tick before which it isn't sent
abbrev pub wanted_of : {X : Type 0} → OpenCall X → ℕ → ℕ → ℕ → Wanted
wanted_of c scan slot function = record { call = c.stream.call; seat = record { scan = scan; slot = slot; generation = c.generation; function = function }; due = c.due }

-- the call stands at the end of the list
abbrev pub IsPut : {X : Type 0} → OpenCall X → ℕ → ℕ → ℕ → List Wanted → List Wanted → Type 0
IsPut c scan slot function before after = after ≡ before ++ wanted_of c scan slot function ∷ []

-- the call, whose present attempt is listed
abbrev pub items_listed : {X : Type 0} → ItemsCall X → ItemsCall X
items_listed c = record c { call = record c.call { listed = true } }

abbrev pub parents_listed : {X : Type 0} → ParentsCall X → ParentsCall X
parents_listed c = record c { call = record c.call { listed = true } }

-- The call whose items are asked for is listed, unless it was: the get, list or child list, and where none is open the parents call.
pub data CallLists {X : Type 0} (scope : ScanScope) (scan : ℕ) (old new : Course X) (before after : List Wanted) : Type 0 where
  ListsNone : new ≡ old → after ≡ before → CallLists scope scan old new before after
  ListsItems : (i : ItemsCall X) → old.items ≡ Some i → i.call.listed ≡ false → new ≡ record old { items = Some (items_listed i) }
      → IsPut i.call scan (items_slot scope.request.access) (items_function scope.request.access) before after → CallLists scope scan old new before after
  ListsParents : (o : ParentsCall X) → old.items ≡ None → old.parents ≡ Some o → o.call.listed ≡ false → new ≡ record old { parents = Some (parents_listed o) } → IsPut o.call scan 0 64 before after → CallLists scope scan old new before after

-- then those of the rows in flight
pub record CourseLists {X : Type 0} (scope : ScanScope) (scan : ℕ) (old new : Course X) (before after : List Wanted) : Type 0 where
  pub mid : Course X
  pub jobs : List Wanted
  pub call : CallLists scope scan old mid before jobs
  pub rows : Lists scan mid.flight new.flight jobs after
  pub rest : new ≡ record mid { flight = new.flight }

-- the call whose items are asked for is listed
abbrev pub CallIsListed : {X : Type 0} → Option (ItemsCall X) → Option (ParentsCall X) → Type 0
CallIsListed (Some i) parents = i.call.listed ≡ true
CallIsListed None (Some o) = o.call.listed ≡ true
CallIsListed None None = Unit {0}

-- no call is ready and not listed
abbrev pub NoneIsLeft : {X : Type 0} → Course X → Type 0
NoneIsLeft c = CallIsListed c.items c.parents × IsAllListed c.flight

-- The calls of a scan as the laws see them.
use Rattle.std.specs.Prelude.{ℕ, zero, suc, ◌+◌, ◌-◌, ◌^◌, min, false, take, Option, Some, None, unwrap_or}
use Rattle.sp_model.specs.Walk.{Source, list_source, get_source}
use Rattle.sp_model.specs.declared.call.CallKey.{CallKey}
use Rattle.sp_model.specs.declared.declaration.TableDecl.{TableDecl}
use Rattle.sp_model.specs.declared.outcome.WalkState.{WalkState}
use Rattle.sp_model.specs.declared.scan.Access.{Access}
use Rattle.sp_model.specs.declared.scan.Access.TheVariants.{Get, List as OfList, Parents}
use Rattle.row_stream.specs.Streams.{begun}
use Rattle.scan_laws.specs.States.{Outer, Inner}
use Rattle.scan_core.specs.declared.calls.Entry.{Entry}
use Rattle.scan_core.specs.declared.calls.ItemsCall.{ItemsCall}
use Rattle.scan_core.specs.declared.calls.OpenCall.{OpenCall}
use Rattle.scan_core.specs.declared.calls.ParentsCall.{ParentsCall}
use Rattle.scan_core.specs.declared.scope.CallSource.{CallSource}

abbrev pub source_of : CallSource → Source
source_of c = record { function = c.function; rule = c.rule; single = c.single }

-- the source of the items of an access; parents' items are those of child lists
abbrev pub items_source : Access → TableDecl → Source
items_source Get table = get_source table table.get
items_source OfList table = list_source table table.list
items_source Parents table = list_source table table.list

-- rows are only added: those at an entry are the first of those kept now
abbrev pub entry_view : WalkState → Option Entry → Option WalkState
entry_view now None = None
entry_view now (Some e) = Some (record { rows = take e.rows now.rows; items = e.items; steady = e.steady })

abbrev pub inner_of : {X : Type 0} → CallSource → WalkState → ItemsCall X → Inner
inner_of source now c = record {
  asked = c.call.stream.call.call;
  source = source_of source;
  attempt = c.call.stream.call.attempt;
  listed = c.call.listed;
  entered = entry_view now c.entered;
  decided = c.call.taken;
  ending = c.call.stream.ending;
}

abbrev pub inner_view : {X : Type 0} → CallSource → WalkState → Option (ItemsCall X) → Option Inner
inner_view source now None = None
inner_view source now (Some c) = Some (inner_of source now c)

abbrev pub outer_of : {X : Type 0} → ParentsCall X → Outer
outer_of c = record { attempt = c.call.stream.call.attempt; listed = c.call.listed; walked = c.call.taken; waiting = c.waiting.items; ending = c.call.stream.ending }

abbrev pub outer_view : {X : Type 0} → Option (ParentsCall X) → Option Outer
outer_view None = None
outer_view (Some c) = Some (outer_of c)

-- the same call, one attempt later
abbrev pub next_attempt : CallKey → CallKey
next_attempt key = record key { attempt = key.attempt + 1 }

-- the first attempt of a call
abbrev pub open_first : {X : Type 0} → CallKey → ℕ → OpenCall X
open_first key generation = record { stream = begun key; listed = false; due = 0; generation = generation; ended_at = 0; taken = 0 }

-- the next one, which waits for its delay since the ending of this one was taken in
abbrev pub open_again : {X : Type 0} → OpenCall X → ℕ → ℕ → OpenCall X
open_again c delay generation = record {
  stream = begun (next_attempt c.stream.call);
  listed = false;
  due = min (2 ^ 64 - 1) (c.ended_at + delay);
  generation = generation;
  ended_at = 0;
  taken = 0;
}

abbrev pub items_again : {X : Type 0} → ItemsCall X → ℕ → ℕ → ItemsCall X
items_again c delay generation = record { call = open_again c.call delay generation; entered = None }

-- a call of which one more item is decided
abbrev pub passed : {X : Type 0} → ItemsCall X → Entry → ItemsCall X
passed c entry = record c { call = record c.call { taken = c.call.taken + 1 }; entered = Some (unwrap_or c.entered entry) }

-- how many items stand in front once the first one is decided
abbrev pub passed_front : ℕ → ℕ
passed_front zero = zero
passed_front (suc n) = n

-- the first item is one of those in front, or else one of the open call
abbrev pub passed_items : {X : Type 0} → ℕ → Option (ItemsCall X) → Entry → Option (ItemsCall X)
passed_items zero None entry = None
passed_items zero (Some c) entry = Some (passed c entry)
passed_items (suc n) c entry = c

-- A lawful call names its table, and the table has the call's configuration or function.
use Rattle.std.proofs.Common.{◌≡◌, ℕ, Bool, true, false, ◌&&◌, List, Option, Some, None, IsSome, option_map, bytes_eq, refl}
use Rattle.std.proofs.lemmas.Bool.{false≢true}
use Rattle.std.proofs.lemmas.Slice.Eq.{bytes_eq-Decides}
use Rattle.sp_value.specs.declared.cell.Cell.{Cell}
use Rattle.sp_model.specs.Calls.{is_lawful_by, is_lawful_list, is_lawful_parents, is_lawful_get, is_lawful_hydrate}
use Rattle.sp_model.specs.Hydration.{find_function}
use Rattle.sp_model.specs.Walk.{parent_of}
use Rattle.sp_model.specs.declared.call.Call.{Call}
use Rattle.sp_model.specs.declared.call.Call.TheVariants as call
use Rattle.sp_model.specs.declared.call.Condition.{Condition}
use Rattle.sp_model.specs.declared.declaration.AccessDecl.{AccessDecl}
use Rattle.sp_model.specs.declared.declaration.FunctionDecl.{FunctionDecl}
use Rattle.sp_model.specs.declared.declaration.GetDecl.{GetDecl}
use Rattle.sp_model.specs.declared.declaration.ListDecl.{ListDecl}
use Rattle.sp_model.specs.declared.declaration.TableDecl.{TableDecl}
use Rattle.rate_gate.specs.Tags.{own, own_of, table_named}

left : (a b : Bool) → (a && b) ≡ true → a ≡ true
left true b h = refl
left false b h = absurd (false≢true h)

right : (a b : Bool) → (a && b) ≡ true → b ≡ true
right true b h = h
right false b h = absurd (false≢true h)

same_name : (a b : List ℕ) (rest : Bool) → (bytes_eq a b && rest) ≡ true → a ≡ b
same_name a b rest h = (bytes_eq-Decides a b).0 (left (bytes_eq a b) rest h)

pub names_table : (table : TableDecl) (c : Call) (attempt : ℕ) → is_lawful_by table c attempt ≡ true → table_named c ≡ table.name
names_table table (call.List name conditions parent) attempt h = same_name name table.name (is_lawful_list table conditions parent attempt table.list) h
names_table table (call.Parents name) attempt h = same_name name table.name (is_lawful_parents table attempt (parent_of table.list)) h
names_table table (call.Get name conditions) attempt h = same_name name table.name (is_lawful_get table conditions attempt table.get) h
names_table table (call.Hydrate name function item results) attempt h =
    same_name name table.name (is_lawful_hydrate table results attempt (find_function function table.functions)) h

of_list : (table : TableDecl) (conditions : List Condition) (parent : Option Cell) (attempt : ℕ) (d : Option ListDecl)
    → is_lawful_list table conditions parent attempt d ≡ true → IsSome (option_map (λ d. own d.function d.tags) d)
of_list table conditions parent attempt None h = absurd (false≢true h)
of_list table conditions parent attempt (Some d) h = refl

of_parents : (table : TableDecl) (attempt : ℕ) (d : Option AccessDecl) → is_lawful_parents table attempt d ≡ true → IsSome (option_map (λ d. own d.function d.tags) d)
of_parents table attempt None h = absurd (false≢true h)
of_parents table attempt (Some d) h = refl

of_get : (table : TableDecl) (conditions : List Condition) (attempt : ℕ) (d : Option GetDecl)
    → is_lawful_get table conditions attempt d ≡ true → IsSome (option_map (λ d. own d.function d.tags) d)
of_get table conditions attempt None h = absurd (false≢true h)
of_get table conditions attempt (Some d) h = refl

of_hydrate : (table : TableDecl) (results : List (List ℕ × Cell)) (attempt : ℕ) (d : Option FunctionDecl)
    → is_lawful_hydrate table results attempt d ≡ true → IsSome (option_map (λ d. own d.name d.tags) d)
of_hydrate table results attempt None h = absurd (false≢true h)
of_hydrate table results attempt (Some d) h = refl

pub has_own : (table : TableDecl) (c : Call) (attempt : ℕ) → is_lawful_by table c attempt ≡ true → IsSome (own_of table c)
has_own table (call.List name conditions parent) attempt h = of_list table conditions parent attempt table.list (right (bytes_eq name table.name) _ h)
has_own table (call.Parents name) attempt h = of_parents table attempt (parent_of table.list) (right (bytes_eq name table.name) _ h)
has_own table (call.Get name conditions) attempt h = of_get table conditions attempt table.get (right (bytes_eq name table.name) _ h)
has_own table (call.Hydrate name function item results) attempt h =
    of_hydrate table results attempt (find_function function table.functions) (right (bytes_eq name table.name) _ h)

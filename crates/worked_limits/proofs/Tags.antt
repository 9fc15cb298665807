-- A list call of a table with a list.
use Rattle.std.proofs.Common.{ℕ, List, Option, Some, None, IsSome, option_map, refl}
use Rattle.std.proofs.lemmas.Bool.{false≢true}
use Rattle.sp_value.specs.declared.cell.Cell.{Cell}
use Rattle.sp_model.specs.declared.call.Call.TheVariants as call
use Rattle.sp_model.specs.declared.call.Condition.{Condition}
use Rattle.sp_model.specs.declared.declaration.ListDecl.{ListDecl}
use Rattle.sp_model.specs.declared.declaration.TableDecl.{TableDecl}
use Rattle.rate_gate.specs.Tags.{own, own_of}

own_of_list : (d : Option ListDecl) → IsSome d → IsSome (option_map (λ d. own d.function d.tags) d)
own_of_list None h = absurd (false≢true h)
own_of_list (Some d) h = refl

pub has_own : (table : TableDecl) (name : List ℕ) (conditions : List Condition) (parent : Option Cell) → IsSome table.list → IsSome (own_of table (call.List name conditions parent))
has_own table name conditions parent h = own_of_list table.list h

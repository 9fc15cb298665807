-- What a function returned is what reading gives, unless memory ran out.
use Rattle.std.specs.Prelude.{◌≡◌, Result, Ok, Err}
use Rattle.sql_grammar.specs.declared.stop.Stop.{Stop}
use Rattle.sql_grammar.specs.declared.stop.Stop.TheVariants as stop
use Rattle.sql_grammar.specs.Reading.{Fault}

abbrev pub Fails : {Y : Type 0} → Stop → Result Y Fault → Type 0
Fails stop.Memory read = Unit {0}
Fails (stop.Fault deep rest) read = read ≡ Err (record { deep = deep; rest = rest.now })

abbrev pub Gives : {X Y : Type 0} → (X → Y) → Result X Stop → Result Y Fault → Type 0
Gives view (Ok x) read = read ≡ Ok (view x)
Gives view (Err e) read = Fails e read

-- Which refusals are none of the declaration.
use Rattle.std.specs.Prelude.{Bool, true, false}
use Rattle.decl_words.specs.declared.fault.DeclFault.{DeclFault}
use Rattle.decl_words.specs.declared.fault.DeclFault.TheVariants.{Memory}

-- want of memory
abbrev pub is_memory : DeclFault → Bool
is_memory Memory = true
is_memory _ = false

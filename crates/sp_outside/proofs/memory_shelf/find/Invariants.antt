use Rattle.std.proofs.Common.{◌≡◌, drop}
use Rattle.sp_outside.specs.Memories.{file_of}
use Rattle.sp_outside.proofs.memory_shelf.find.Given as goal

-- no file so far has the name
abbrev pub invariant-loop-named : goal.invariant-loop-named
invariant-loop-named l = file_of (drop l.named-index l.files) l.name ≡ file_of l.files l.name

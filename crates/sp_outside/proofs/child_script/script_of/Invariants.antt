use Rattle.std.proofs.Common.{◌≡◌, drop}
use Rattle.sp_outside.specs.ChildState.{script_of}
use Rattle.sp_outside.proofs.child_script.script_of.Given as goal

-- no script so far is of the connection
abbrev pub invariant-loop-script : goal.invariant-loop-script
invariant-loop-script l = script_of (drop l.script-index l.scripts) l.connection ≡ script_of l.scripts l.connection

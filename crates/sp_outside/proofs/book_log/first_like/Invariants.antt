use Rattle.std.proofs.Common.{ℕ, ◌+◌, drop}
use Rattle.sp_outside.specs.BookLog.{IsFirst}
use Rattle.sp_outside.proofs.book_log.first_like.Given as goal

-- no call so far has the number
abbrev pub invariant-loop-place : goal.invariant-loop-place
invariant-loop-place l = (n : ℕ) → IsFirst l.id (drop l.place l.calls) n → IsFirst l.id l.calls (l.place + n)

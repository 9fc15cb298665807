use Rattle.std.proofs.Common.{◌≡◌, List, ℕ, position, ◌∙◌, ap, drop, take, length, ◌-◌}
use Rattle.std.proofs.lemmas.List.{take_rest}
use Rattle.byte_lines.specs.Lines.{is_feed}
use Rattle.byte_lines.proofs.Feeds.{found_past, missed_past}
use Rattle.byte_lines.proofs.pending.PendingBytes.find_feed.Goals as goal

-- the bytes from `n` on
tail : (n : ℕ) (ys xs : List ℕ) → ys ≡ xs → position is_feed (take (length ys - n) (drop n ys)) ≡ position is_feed (drop n xs)
tail n ys xs e = ap (position is_feed) (take_rest ys n ∙ ap (drop n) e)

pub returns-in-Some : goal.returns-in-Some
returns-in-Some c =
    found_past _ _ _ c.requires (c.in-Some.ensures ∙ tail c.args.searched c.bytes.result.now c.args.self.now c.bytes.ensures)

pub returns-in-None : goal.returns-in-None
returns-in-None c =
    missed_past _ _ c.requires (c.in-None.ensures ∙ tail c.args.searched c.bytes.result.now c.args.self.now c.bytes.ensures)

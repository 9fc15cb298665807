-- What reading more does to the bytes that wait.
use Rattle.std.proofs.Common.{◌≡◌, ℕ, ◌≤◌, List, [], ◌++◌, length, Option, None, position, sym, ◌∙◌, ap, subst, append-nil, append_assoc, arith}
use Rattle.std.proofs.KnownBytes.{Consumes-nil, Consumes-trans}
use Rattle.byte_lines.specs.Lines.{is_feed, ReadsMore}
use Rattle.byte_lines.proofs.Feeds.{first, first-append, no_feed}

pub ReadsMore-nil : (old : List ℕ) (left : Option (List ℕ)) → ReadsMore old old left left
ReadsMore-nil old left = record { read = []; consumed = Consumes-nil left; added = sym (append-nil old) }

pub ReadsMore-trans : (old mid new : List ℕ) (left later rest : Option (List ℕ)) → ReadsMore old mid left later → ReadsMore mid new later rest → ReadsMore old new left rest
ReadsMore-trans old mid new left later rest one two = record {
  read = one.read ++ two.read;
  consumed = Consumes-trans left later rest one.read two.read one.consumed two.consumed;
  added = two.added ∙ ap (λ l. l ++ two.read) one.added ∙ append_assoc old one.read two.read;
}

-- where no byte that waited is a line feed, none stands before what is read
pub feed_later : (old new : List ℕ) (left rest : Option (List ℕ)) → ReadsMore old new left rest → None ≡ position is_feed old → length old ≤ first new
feed_later old new left rest more missed =
    let P : List ℕ → Type 0 = λ l. first old ≤ first l in
    omega (arith, no_feed old missed, subst P (sym more.added) (first-append old more.read))

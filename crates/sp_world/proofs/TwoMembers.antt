-- Objects of two members.
use Rattle.std.proofs.Common.{◌≡◌, List, [], ◌∷◌, length, nat_eq, refl, arith}
use Rattle.std.proofs.lemmas.Bool.{ne_eqb}
use Rattle.serde_json.specs.Data.{object}
use Rattle.serde_json.specs.View.{members_view}
use Rattle.serde_json.proofs.Views.{Entry}
use Rattle.sp_world.specs.ReplyLines.{has_two_members}

pub two_entries : (es : List Entry) → nat_eq (length es) 2 ≡ has_two_members (object (members_view es))
two_entries [] = refl
two_entries (e ∷ []) = refl
two_entries (e ∷ f ∷ []) = refl
two_entries (e ∷ f ∷ g ∷ es) = ne_eqb (length (e ∷ f ∷ g ∷ es)) 2 (λ h. absurd (omega arith))

use Rattle.std.proofs.Common.{◌≡◌, ◌+◌, ◌++◌, ◌∷◌, [], Some, ap, ◌∙◌, sym, arith}
use Rattle.std.specs.Prelude.{slice_get}
use Rattle.std.proofs.lemmas.Grind.{common_steps}
use Rattle.row_stream.proofs.Feeding.{agrees_item, no_ending}
use Rattle.row_stream.proofs.stream.ListStream.take_in.Goals as goal

pub returns-else-is_err-clause-agrees : goal.returns-else-is_err-clause-agrees
returns-else-is_err-clause-agrees g c = λ reply taken piece a.
    let is : slice_get reply.items c.in-Item.place ≡ Some c.in-Item.item = rw c.in-Item.is at piece in
    let have : c.self.inside.have ≡ c.args.self.now.have = ap (λ s. s.have) c.self.view_is in
    let waiting : c.self.inside.waiting.items ≡ c.args.self.now.waiting = ap (λ s. s.waiting) c.self.view_is in
    let ending : c.self.inside.ending ≡ c.args.self.now.ending = ap (λ s. s.ending) c.self.view_is in
    let here : c.in-Item.place ≡ c.args.self.now.have = omega arith in
    let pushed : c.push_back.new.self.items ≡ c.self.inside.waiting.items ++ c.in-Item.item ∷ [] = grind (arith, common_steps, c.push_back.ensures.items, c.if-is_err.ensures.value, c.if-is_err.ensures.negation) in
    agrees_item taken c.args.self.now _ reply c.in-Item.item a (rw here at is) (sym ending ∙ no_ending c.self.inside.ending c.is_some.result c.is_some.ensures c.if-is_some.false)
    (pushed ∙ ap (λ xs. xs ++ c.in-Item.item ∷ []) waiting) (ap (λ k. k + 1) have) (omega arith) ending

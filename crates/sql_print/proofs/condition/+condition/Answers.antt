use Rattle.std.proofs.Common.{◌≡◌, List, map, sym, ap, ◌∙◌, subst, OnOk, arith}
use Rattle.sql_lex.specs.declared.token.Kind.TheVariants as k
use Rattle.sql_print.specs.Said.{Bare, said, between}
use Rattle.sql_print.specs.Spelling.{writes}
use Rattle.sql_print.specs.Page.{state}
use Rattle.sql_print.proofs.SaidLaws.{alone_or, alone_and, or_said, and_said}
use Rattle.sql_print.proofs.Turns.{turn_first, turn_more}
use Rattle.sql_print.proofs.condition.+condition.Goals as goal
use Rattle.sql_print.proofs.condition.+condition.Goals.{disjuncts-then-i-gt0+in_ok-word, disjuncts-else-i-gt0, conjuncts-then-i-gt0+in_ok-word, conjuncts-else-i-gt0}

pub alone-returns-in-Or : goal.alone-returns-in-Or
alone-returns-in-Or t c =
    let is : (said c.args.e.now).alone ≡ between k.Or (map or_said c.as_slice.result.now) = ap (λ z. (said z).alone) c.in-Or.is ∙ alone_or c.in-Or.members ∙ ap (λ ms. between k.Or (map or_said ms)) (sym c.as_slice.ensures) in
    subst (λ (ts : List Bare). OnOk c.disjuncts.result (state c.disjuncts.new.page ≡ writes (state c.args.page.now) ts)) (sym is) c.disjuncts.ensures

pub alone-returns-in-And : goal.alone-returns-in-And
alone-returns-in-And t c =
    let is : (said c.args.e.now).alone ≡ between k.And (map and_said c.as_slice-in-And.result.now) = ap (λ z. (said z).alone) c.in-And.is ∙ alone_and c.in-And.members ∙ ap (λ ms. between k.And (map and_said ms)) (sym c.as_slice-in-And.ensures) in
    subst (λ (ts : List Bare). OnOk c.conjuncts.result (state c.conjuncts.new.page ≡ writes (state c.args.page.now) ts)) (sym is) c.conjuncts.ensures

pub disjuncts-more-preserved : goal.disjuncts-more-preserved
disjuncts-more-preserved t c =
    elim c.if-i-gt0.branch [
      | disjuncts-then-i-gt0+in_ok-word w ↦ turn_more k.Or or_said (state c.more.page) c.args.members.now c.more.i c.index-members-i.result c.more-test.true c.index-members-i.is (state w.word.new.self) (state c.in_or.new.page) (omega arith) w.in_ok-word.ensures (c.in_ok-in_or.ensures ∙ ap (λ p. writes (state p) (or_said c.index-members-i.result)) w.page-is) ∙ c.more.invariant
      | disjuncts-else-i-gt0 w ↦ turn_first k.Or or_said (state c.more.page) c.args.members.now c.more.i c.index-members-i.result c.more-test.true c.index-members-i.is (state c.in_or.new.page) (omega arith) (c.in_ok-in_or.ensures ∙ ap (λ p. writes (state p) (or_said c.index-members-i.result)) w.page-is) ∙ c.more.invariant
    ]

pub conjuncts-more-preserved : goal.conjuncts-more-preserved
conjuncts-more-preserved t c =
    elim c.if-i-gt0.branch [
      | conjuncts-then-i-gt0+in_ok-word w ↦ turn_more k.And and_said (state c.more.page) c.args.members.now c.more.i c.index-members-i.result c.more-test.true c.index-members-i.is (state w.word.new.self) (state c.in_and.new.page) (omega arith) w.in_ok-word.ensures (c.in_ok-in_and.ensures ∙ ap (λ p. writes (state p) (and_said c.index-members-i.result)) w.page-is) ∙ c.more.invariant
      | conjuncts-else-i-gt0 w ↦ turn_first k.And and_said (state c.more.page) c.args.members.now c.more.i c.index-members-i.result c.more-test.true c.index-members-i.is (state c.in_and.new.page) (omega arith) (c.in_ok-in_and.ensures ∙ ap (λ p. writes (state p) (and_said c.index-members-i.result)) w.page-is) ∙ c.more.invariant
    ]

use Rattle.std.proofs.Common.{◌≡◌, ◌∙◌, rules, reverse, subst}
use Rattle.std.proofs.lemmas.Fn.{always_returns_same, dedup_same}
use Rattle.std.specs.List.{dedup}
use Rattle.std.specs.List.Sorted.{IsSortedBy, IsStableBy}
use Rattle.sp_model.specs.Covers.{same_condition}
use Rattle.key_columns.proofs.Ordered.{before, is_order, canonical_is}
use Rattle.key_columns.proofs.sending.put_in_order.Goals as goal

pub returns : goal.returns
returns c =
    let sorted : IsSortedBy before c.sort_by.new.self.items = c.in_ok-sort_by.ensures.sorted before is_order (always_returns_same _ _ _ (λ a r f' k. search rules)) in
    let stable : IsStableBy before c.reverse.new.self.items c.sort_by.new.self.items =
    c.in_ok-sort_by.ensures.stable before is_order (always_returns_same _ _ _ (λ a r f' k. search rules)) in
    let once : c.dedup_by.new.self.items ≡ dedup same_condition c.sort_by.new.self.items =
    dedup_same _ same_condition _ (λ x y b f' x' y' k. search rules) _ _ c.dedup_by.ensures.filtered in
    let turned : c.reverse.new.self.items ≡ reverse c.args.conditions.items = c.reverse.ensures.items in
    c.from_vec.ensures ∙ once
    ∙ canonical_is c.args.conditions.items c.sort_by.new.self.items sorted (subst (λ cs. IsStableBy before cs c.sort_by.new.self.items) turned stable)

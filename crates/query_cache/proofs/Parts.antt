-- A list that stands in two parts.
use Rattle.std.proofs.Common.{◌≡◌, Bool, true, false, ◌||◌, List, ◌++◌, refl, sym, ap, ◌∙◌}
use Rattle.std.proofs.lemmas.Bool.{or_right}
use Rattle.std.proofs.lemmas.List.Folds.{list_any-append}
use Rattle.std.specs.List.{list_any}

or_none : (a b : Bool) → b ≡ false → (a || b) ≡ a
or_none true b h = refl
or_none false b h = h

module _ {X : Type 0} (p : X → Bool) (all before after : List X) (parts : all ≡ before ++ after) where
  any_part : list_any p all ≡ (list_any p before || list_any p after)
  any_part = ap (list_any p) parts ∙ list_any-append p before after

  -- one passes in the second part
  pub any_after : true ≡ list_any p after → true ≡ list_any p all
  any_after h = sym (any_part ∙ or_right (list_any p before) (list_any p after) (sym h))

  -- none passes there
  pub any_before : false ≡ list_any p after → list_any p before ≡ list_any p all
  any_before h = sym (any_part ∙ or_none (list_any p before) (list_any p after) (sym h))

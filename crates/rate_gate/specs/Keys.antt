-- The key under which an instance is found: one list of numbers for each list of values.
use Rattle.std.specs.Prelude.{ℕ, suc, Bool, ◌&&◌, List, [], ◌∷◌, ◌++◌, bytes_eq}
use Rattle.sp_model.specs.declared.settings.Limiter.{Limiter}
use Rattle.rate_gate.specs.declared.tag_list.TagList.{TagList}
use Rattle.rate_gate.specs.Limits.{applies, scope_values}

-- each byte is one more, and a 0 ends a value
abbrev pub spelled : List ℕ → List ℕ
spelled [] = 0 ∷ []
spelled (b ∷ bs) = suc b ∷ spelled bs

abbrev pub key_of : List (List ℕ) → List ℕ
key_of [] = []
key_of (v ∷ vs) = spelled v ++ key_of vs

-- the limiter applies to the call, and the call's instance of it has this key
abbrev pub by_key : Limiter → List ℕ → TagList → Bool
by_key l key tags = applies l tags && bytes_eq (key_of (scope_values l tags)) key

-- Bytes that are left, and what a read makes of them.
use Rattle.std.proofs.Common.{◌≡◌, ℕ, ◌+◌, ◌<◌, List, [], ◌++◌, length, min, take, drop, sym, ◌∙◌, ap, arith, take-append-drop, length-drop}
use Rattle.std.proofs.lemmas.List.{drop-drop, drop_all}

-- what a read takes is followed by what is left after it
pub read_left : (left bytes into : List ℕ) (at n : ℕ) → left ≡ drop at bytes → take n into ≡ take n (drop at bytes) → left ≡ take n into ++ drop (at + n) bytes
read_left left bytes into at n is front =
    is ∙ sym (take-append-drop n (drop at bytes)) ∙ ap (λ part. part ++ drop n (drop at bytes)) (sym front) ∙ ap (λ rest. take n into ++ rest) (drop-drop n at bytes)

-- where a read with room takes nothing, nothing is left
pub read_none : (bytes : List ℕ) (at n room : ℕ) → n ≡ min (length (drop at bytes)) room → n ≡ 0 → 0 < room → drop (at + n) bytes ≡ []
read_none bytes at n room count zero some = drop_all (at + n) bytes (omega (arith, length-drop at bytes))

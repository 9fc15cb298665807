use Rattle.std.proofs.Common.{◌≡◌, ◌<◌, length, get_or, string_bytes, ap, sym, subst, arith}
use Rattle.std.specs.Str.{IsCharBoundary}
use Rattle.std.proofs.lemmas.Str.{IsUtf8-had, IsCharBoundary-after_ascii}
use Rattle.sp_world.proofs.parts.continued.Goals as goal

pub split_at-requires : goal.split_at-requires
split_at-requires c =
    let bytes = string_bytes c.args.text in
    let is = c.requires.1 in
    let some : 0 < length bytes = omega (arith, ap length is) in
    let low : get_or bytes 0 0 < 128 = subst (λ xs. get_or xs 0 0 < 128) (sym is) (omega arith) in
    subst (λ xs. IsCharBoundary xs 1) (sym c.as_str.ensures.value) (IsCharBoundary-after_ascii bytes 0 (IsUtf8-had bytes c.args.text.ok) some low)

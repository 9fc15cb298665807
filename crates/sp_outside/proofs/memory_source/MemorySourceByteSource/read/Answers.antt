use Rattle.std.proofs.Common.{◌≡◌, ◌∙◌, length, min, take, drop, ap, sym}
use Rattle.sp_outside.proofs.Bytes.{read_left, read_none}
use Rattle.sp_outside.proofs.memory_source.MemorySourceByteSource.read.Goals as goal

pub returns-clause-bytes : goal.returns-clause-bytes
returns-clause-bytes c =
    let bytes = c.self.inside.bytes.items in
    let at = c.self.inside.at in
    let n = c.take_into-count.result in
    let into = c.take_into-count.new.into in
    let front : take n into ≡ take n (drop at bytes) = c.take_into-count.ensures.front ∙ ap (take n) c.left.ensures in
    let count : n ≡ min (length (drop at bytes)) (length into) =
    c.take_into-count.ensures.count ∙ ap (λ left. min (length left) (length c.args.into.now)) c.left.ensures
    ∙ ap (min (length (drop at bytes))) (sym c.take_into-count.auto.into) in
    (read_left _ bytes into at n (sym (ap (λ v. v.left) c.self.view_is)) front, λ zero some. read_none bytes at n (length into) count zero some)

use Rattle.std.proofs.Common.{◌≡◌, ◌<◌, ◌%◌, ◌∷◌, [], ◌++◌, Some, subst, ap, sym, ◌∙◌, vec_len}
use Rattle.std.specs.Prelude.{slice_get}
use Rattle.std.proofs.lemmas.Option.{slice_get_read}
use Rattle.sp_outside.specs.BookLog.{Stands, IsFirst, IsFirstLike}
use Rattle.sp_outside.specs.Log.{pending, IsNextLine, IsPickedLine}
use Rattle.sp_outside.specs.declared.log.Event.TheVariants.{Given}
use Rattle.sp_outside.proofs.OpenCalls.{given_next, given_picked, given_stands}
use Rattle.sp_outside.proofs.book_log.BookLog.give.Goals as goal

pub returns-clause-told : goal.returns-clause-told
returns-clause-told g c =
    let book = g.W.World.book in
    let log = c.self.inside.events in
    let calls = c.self.inside.calls.items in
    let place = c.first_like-place.result in
    let call = c.index.result.now in
    let bytes = c.in-Ok.line.items in
    let within : place < vec_len c.self.inside.calls = subst (λ n. place < n) c.deref.ensures.len c.first_like-place.ensures.within in
    let at : slice_get calls place ≡ Some call = slice_get_read calls (vec_len c.self.inside.calls) place call c.self.inside.calls.ok.0 within c.index.ensures in
    let like = c.first_like-place.ensures.first in
    let id = like.like.call.id in
    let first = subst (λ l. IsFirst id l place) c.deref.ensures.value like.is_first in
    let next = given_next book log calls id place call bytes c.self.invariant.2 first at c.in-Ok.ensures in
    subst (λ v. IsNextLine book (pending v) bytes) c.self.view_is next

pub invariant_of-self-2 : goal.invariant_of-self-2
invariant_of-self-2 g c =
    let book = g.W.World.book in
    let log = c.self.inside.events in
    let calls = c.self.inside.calls.items in
    let place = c.first_like-place.result in
    let call = c.index.result.now in
    let bytes = c.in-Ok.line.items in
    let within : place < vec_len c.self.inside.calls = subst (λ n. place < n) c.deref.ensures.len c.first_like-place.ensures.within in
    let at : slice_get calls place ≡ Some call = slice_get_read calls (vec_len c.self.inside.calls) place call c.self.inside.calls.ok.0 within c.index.ensures in
    let like = c.first_like-place.ensures.first in
    let id = like.like.call.id in
    let first = subst (λ l. IsFirst id l place) c.deref.ensures.value like.is_first in
    let after = given_stands book log calls id place call bytes c.self.invariant.2 first at c.in-Ok.ensures in
    let logged : c.push.new.self ≡ log ++ Given bytes ∷ [] = c.in-Ok-push.ensures.ok ∙ ap (λ b. log ++ Given b ∷ []) (c.in-Ok-from_slice.ensures ∙ c.deref-2.ensures.value) in
    (c.self.invariant.0, c.self.invariant.1, subst (λ l. Stands book l c.advance.new.calls.items) (sym logged) (subst (Stands book (log ++ Given bytes ∷ [])) (sym c.advance.ensures) after))

pub returns-clause-order : goal.returns-clause-order
returns-clause-order g c =
    let book = g.W.World.book in
    let log = c.self.inside.events in
    let calls = c.self.inside.calls.items in
    let place = c.first_like-place.result in
    let call = c.index.result.now in
    let bytes = c.in-Ok.line.items in
    let within : place < vec_len c.self.inside.calls = subst (λ n. place < n) c.deref.ensures.len c.first_like-place.ensures.within in
    let at : slice_get calls place ≡ Some call = slice_get_read calls (vec_len c.self.inside.calls) place call c.self.inside.calls.ok.0 within c.index.ensures in
    let first = subst (λ l. IsFirstLike (c.args.pick % c.len.result) l place) c.deref.ensures.value c.first_like-place.ensures.first in
    let picked = given_picked book log calls c.args.pick c.len.result place call bytes c.self.invariant.2 (c.len.ensures ∙ c.self.inside.calls.ok.0) first at c.in-Ok.ensures in
    subst (λ v. IsPickedLine book c.args.pick (pending v) bytes) c.self.view_is picked

use Rattle.std.proofs.Common.{◌≡◌, [], length, None, codes, refl, ap, arith}
use Rattle.sp_value.proofs.Computing.{cells}
use Rattle.sp_model.specs.declared.call.Ending.TheVariants.{End}
use Rattle.sp_model.specs.declared.call.Reply.{Reply}
use Rattle.model_laws.proofs.FilteringBooks.{keeps_promise}
use Rattle.worked_values.proofs.Forms.{filtering_forms}
use Rattle.worked_values.specs.Filtering.{things, filtering, item_list}
use Rattle.worked_values.specs.Samples.{item}
use Rattle.worked_values.specs.Serving.{id_above_1}
use Rattle.worked_values.proofs.filtering.small_books.Goals as goal

pub returns-clause-filtering_book_keeps_the_promise : goal.returns-clause-filtering_book_keeps_the_promise
returns-clause-filtering_book_keeps_the_promise c =
    keeps_promise filtering (codes "c") item item_list (record {
      items = λ version attempt parent. things;
      ending = λ version attempt parent. End;
      replies = λ version attempt parent conditions. refl;
    })

-- one of the two things isn't above 1
pub returns-clause-heedless_book_breaks_it : goal.returns-clause-heedless_book_breaks_it
unfolding cells
returns-clause-heedless_book_breaks_it c = λ promise.
    let counts : 2 ≡ 1 = ap (λ (r : Reply). length r.items) (promise 7 1 None [] id_above_1 refl refl) in
    absurd (omega (arith, counts))

pub returns-clause-filtering_book_can_be_said : goal.returns-clause-filtering_book_can_be_said
returns-clause-filtering_book_can_be_said c = filtering_forms

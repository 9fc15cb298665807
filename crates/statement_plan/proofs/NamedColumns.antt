-- What is sent and what is listed are on columns that the source's rows have.
use Rattle.std.proofs.Common.{◌≡◌, ℕ, ◌==◌, Bool, true, false, ◌&&◌, List, [], ◌∷◌, ◌++◌, map, Option, Some, None, option_map, option_and_then, slice_get, bytes_eq, nat_lt, if◌then◌else◌, refl, sym, ap, ◌∙◌, subst, eqb-true}
use Rattle.std.proofs.lemmas.Bool.{and_from}
use Rattle.std.proofs.lemmas.List.{append_assoc}
use Rattle.std.proofs.lemmas.List.Folds.{list_all-append}
use Rattle.std.specs.List.{list_all, flat_map, filter_map, cons_option}
use Rattle.std.specs.Option.{option_or}
use Rattle.sp_value.specs.declared.cell.Cell.{Cell}
use Rattle.sp_value.specs.declared.truth.Op.{Op}
use Rattle.sp_value.specs.declared.truth.Op.TheVariants as op
use Rattle.sp_model.proofs.PlainLists.{any_there}
use Rattle.sp_model.specs.Keys.{same_operator}
use Rattle.sp_model.specs.Names.{has_name}
use Rattle.sp_model.specs.declared.declaration.ColumnDecl.{ColumnDecl}
use Rattle.model_laws.proofs.FewerColumns.{bytes_itself}
use Rattle.model_laws.proofs.Merging.{left, right}
use Rattle.source_scans.specs.declared.source.PlanCondition.{PlanCondition}
use Rattle.source_scans.specs.declared.source.PlanOperand.TheVariants as plan
use Rattle.sql_bind.specs.declared.bound.Bound.{Bound}
use Rattle.column_tests.specs.declared.test.Question.{Question}
use Rattle.column_tests.specs.declared.test.Question.TheVariants as question
use Rattle.column_tests.specs.declared.test.Test.{Test, fold_out-Test, ind-Test, roll-Test, map-Test}
use Rattle.column_tests.specs.declared.test.Test.TheOpen.{Test-F}
use Rattle.column_tests.specs.declared.test.Test.TheVariants as test
use Rattle.column_tests.specs.declared.test.Test.TheVariants.{rolls-Or, rolls-And, rolls-Not, rolls-Asks}
use Rattle.column_tests.specs.declared.test.Test.TheViews.{out-Test}
use Rattle.column_tests.specs.declared.test.Operand.{Operand}
use Rattle.column_tests.specs.declared.test.Operand.TheVariants as operand
use Rattle.sql_bind.specs.declared.bound.BoundSource.{BoundSource}
use Rattle.sql_bind.specs.declared.bound.Column.{Column}
use Rattle.statement_plan.proofs.ConjunctLaws.{conjuncts_and, conjuncts_or, conjuncts_not, conjuncts_asks}
use Rattle.statement_plan.proofs.Covering.{column_there}
use Rattle.statement_plan.proofs.ReadLaws.{reads_and}
use Rattle.statement_plan.specs.Columns.{columns_of, columns_layer, columns_in, operand_columns, asked_columns, named, column_in, column_name, name_within, names_within, columns_for, place_of}
use Rattle.statement_plan.specs.Conjuncts.{conjuncts, conjuncts_in, conjuncts_of}
use Rattle.statement_plan.specs.Reading.{is_null, turned, with_left, compared, asked_condition, condition_layer, condition_of, asked_list, list_layer}
use Rattle.statement_plan.specs.Sources.{conditions_from, listed_column, listed_from}

abbrev pub all_given : {X : Type 0} → (X → Bool) → Option X → Bool
all_given p None = true
all_given p (Some x) = p x

given_map : {X Y : Type 0} (p : Y → Bool) (f : X → Y) (o : Option X) → all_given p (option_map f o) ≡ all_given (λ x. p (f x)) o
given_map p f None = refl
given_map p f (Some x) = refl

given_or : {X : Type 0} (p : X → Bool) (a b : Option X) → all_given p a ≡ true → all_given p b ≡ true → all_given p (option_or a b) ≡ true
given_or p None b h k = k
given_or p (Some x) b h k = h

all_filter_map : {X Y : Type 0} (p : Y → Bool) (q : X → Bool) (f : X → Option Y) → ((x : X) → q x ≡ true → all_given p (f x) ≡ true) → (xs : List X) → list_all q xs ≡ true → list_all p (filter_map f xs) ≡ true
all_filter_map p q f m [] h = refl
all_filter_map p q f m (x ∷ xs) h = one (f x) (m x (left (q x) (list_all q xs) h)) (all_filter_map p q f m xs (right (q x) (list_all q xs) h))
  where
    one : (o : Option _) → all_given p o ≡ true → list_all p (filter_map f xs) ≡ true → list_all p (cons_option o (filter_map f xs)) ≡ true
    one None a b = b
    one (Some y) a b = and_from (p y) (list_all p (filter_map f xs)) a b

-- ---- conjuncts read what the statement names

reads : (Column → Bool) → Test Column → Bool
reads q x = list_all q (columns_of x)

abbrev SameReads : (Column → Bool) → Test Column → Type 0
SameReads q x = list_all (λ y. list_all q (columns_of y)) (conjuncts x) ≡ list_all q (columns_of x)

and_true : (b : Bool) → (b && true) ≡ b
and_true true = refl
and_true false = refl

alone_reads : (q : Column → Bool) (x : Test Column) → conjuncts x ≡ x ∷ [] → SameReads q x
alone_reads q x h = ap (list_all (λ y. list_all q (columns_of y))) h ∙ and_true (list_all q (columns_of x))

module _ (q : Column → Bool) where
  abbrev WithReads : Type 0
  WithReads = (x : Test Column) × SameReads q x

  members : (ys : List WithReads) → list_all (λ y. list_all q (columns_of y)) (flat_map conjuncts (map (λ y. y.0) ys)) ≡ list_all q (flat_map (λ cs. cs) (map columns_of (map (λ y. y.0) ys)))
  members [] = refl
  members (y ∷ ys) =
      list_all-append (λ y. list_all q (columns_of y)) (conjuncts y.0) (flat_map conjuncts (map (λ y. y.0) ys))
      ∙ ap (λ b. b && list_all (λ y. list_all q (columns_of y)) (flat_map conjuncts (map (λ y. y.0) ys))) y.1
      ∙ ap (λ b. list_all q (columns_of y.0) && b) (members ys)
      ∙ sym (list_all-append q (columns_of y.0) (flat_map (λ cs. cs) (map columns_of (map (λ y. y.0) ys))))

  reads_layer : (y : Test-F Column WithReads) → SameReads q (roll-Test Column (map-Test Column WithReads (Test Column) (λ e. e.0) y))
  reads_layer (Test-F.Or ys) = subst (SameReads q) (sym (rolls-Or (map (λ y. y.0) ys))) (alone_reads q (test.Or (map (λ y. y.0) ys)) (conjuncts_or (map (λ y. y.0) ys)))
  reads_layer (Test-F.And ys) =
      let xs : List (Test Column) = map (λ y. y.0) ys in
      subst (SameReads q) (sym (rolls-And xs))
      (ap (list_all (λ y. list_all q (columns_of y))) (conjuncts_and xs) ∙ members ys ∙ sym (ap (list_all q) (reads_and xs)))
  reads_layer (Test-F.Not y) = subst (SameReads q) (sym (rolls-Not y.0)) (alone_reads q (test.Not y.0) (conjuncts_not y.0))
  reads_layer (Test-F.Asks of question) = subst (SameReads q) (sym (rolls-Asks of question)) (alone_reads q (test.Asks of question) (conjuncts_asks of question))

  same_reads : (x : Test Column) → SameReads q x
  same_reads = ind-Test Column (SameReads q) (λ x y is. subst (λ z. SameReads q (roll-Test Column z)) is (reads_layer y))

  some_reads : (o : Option (Test Column)) → list_all (λ y. list_all q (columns_of y)) (conjuncts_in o) ≡ list_all q (columns_in o)
  some_reads None = refl
  some_reads (Some x) = same_reads x

  source_reads : (ss : List BoundSource) → list_all (λ y. list_all q (columns_of y)) (flat_map (λ s. conjuncts_in s.on) ss) ≡ list_all q (flat_map (λ s. columns_in s.on) ss)
  source_reads [] = refl
  source_reads (s ∷ ss) =
      list_all-append (λ y. list_all q (columns_of y)) (conjuncts_in s.on) (flat_map (λ s. conjuncts_in s.on) ss)
      ∙ ap (λ b. b && list_all (λ y. list_all q (columns_of y)) (flat_map (λ s. conjuncts_in s.on) ss)) (some_reads s.on)
      ∙ ap (λ b. list_all q (columns_in s.on) && b) (source_reads ss)
      ∙ sym (list_all-append q (columns_in s.on) (flat_map (λ s. columns_in s.on) ss))

  -- what holds of each named column holds of those that conjuncts read
  pub all_read : (b : Bound) → list_all q (named b) ≡ true → list_all (λ y. list_all q (columns_of y)) (conjuncts_of b) ≡ true
  all_read b h =
      let shown : List Column = map (λ i. i.column) b.shown in
      let on : List Column = flat_map (λ s. columns_in s.on) b.sources in
      let test : List Column = columns_in b.test in
      let order : List Column = map (λ k. k.column) b.order in
      let one : (list_all q shown && list_all q (on ++ (test ++ order))) ≡ true = sym (list_all-append q shown (on ++ (test ++ order))) ∙ h in
      let two : (list_all q on && list_all q (test ++ order)) ≡ true = sym (list_all-append q on (test ++ order)) ∙ right (list_all q shown) (list_all q (on ++ (test ++ order))) one in
      let three : (list_all q test && list_all q order) ≡ true = sym (list_all-append q test order) ∙ right (list_all q on) (list_all q (test ++ order)) two in
      list_all-append (λ y. list_all q (columns_of y)) (flat_map (λ s. conjuncts_in s.on) b.sources) (conjuncts_in b.test)
      ∙ and_from (list_all (λ y. list_all q (columns_of y)) (flat_map (λ s. conjuncts_in s.on) b.sources)) (list_all (λ y. list_all q (columns_of y)) (conjuncts_in b.test))
      (source_reads b.sources ∙ left (list_all q on) (list_all q (test ++ order)) two) (some_reads b.test ∙ left (list_all q test) (list_all q order) three)

-- ---- conditions and lists are on what conjuncts read

module _ (sources : List BoundSource) (layout : List (List (List ℕ))) (k : ℕ) (columns : List (List ℕ)) where
  abbrev pub covered : Column → Bool
  covered c = all_given (has_name columns) (name_within sources k c)

  abbrev on : PlanCondition → Bool
  on c = has_name columns c.column

  left_by : (c d : Column) (b : Bool) → covered c ≡ true
      → all_given on (if b then option_map (λ name. record { column = name; operator = op.Eq; operand = plan.Left (place_of sources layout d) }) (name_within sources k c) else None) ≡ true
  left_by c d true h = given_map on (λ name. record { column = name; operator = op.Eq; operand = plan.Left (place_of sources layout d) }) (name_within sources k c) ∙ h
  left_by c d false h = refl

  columns_by : (c d : Column) (b : Bool) → covered c ≡ true → covered d ≡ true → all_given on (if b then option_or (with_left sources layout k c d) (with_left sources layout k d c) else None) ≡ true
  columns_by c d true h j = given_or on (with_left sources layout k c d) (with_left sources layout k d c) (left_by c d (nat_lt d.source k) h) (left_by d c (nat_lt c.source k) j)
  columns_by c d false h j = refl

  literal_by : (c : Column) (o : Op) (x : Cell) (b : Bool) → covered c ≡ true
      → all_given on (if b then None else option_map (λ name. record { column = name; operator = o; operand = plan.Literal x }) (name_within sources k c)) ≡ true
  literal_by c o x true h = refl
  literal_by c o x false h = given_map on (λ name. record { column = name; operator = o; operand = plan.Literal x }) (name_within sources k c) ∙ h

  compared_on : (of : Operand Column) (o : Op) (with : Operand Column) → list_all covered (operand_columns of ++ operand_columns with) ≡ true → all_given on (compared sources layout k of o with) ≡ true
  compared_on (operand.Column c) o (operand.Column d) h =
      columns_by c d (same_operator o op.Eq) (left (covered c) (covered d && true) h) (left (covered d) true (right (covered c) (covered d && true) h))
  compared_on (operand.Column c) o (operand.Literal x) h = literal_by c o x (is_null x) (left (covered c) true h)
  compared_on (operand.Literal x) o (operand.Column c) h = literal_by c (turned o) x (is_null x) (left (covered c) true h)
  compared_on (operand.Literal x) o (operand.Literal y) h = refl

  asked_on : (of : Operand Column) (a : Question Column) → list_all covered (operand_columns of ++ asked_columns a) ≡ true → all_given on (asked_condition sources layout k of a) ≡ true
  asked_on of question.Truth h = refl
  asked_on of (question.Compares o with) h = compared_on of o with h
  asked_on of (question.IsIn negated list) h = refl
  asked_on of (question.IsNull negated) h = refl

  layer_on : (x : Test-F Column (Test Column)) → list_all covered (columns_layer (map-Test Column (Test Column) (List Column) columns_of x)) ≡ true → all_given on (condition_layer sources layout k x) ≡ true
  layer_on (Test-F.Or xs) h = refl
  layer_on (Test-F.And xs) h = refl
  layer_on (Test-F.Not x) h = refl
  layer_on (Test-F.Asks of question) h = asked_on of question h

  reads_out : (x : Test Column) → columns_of x ≡ columns_layer (map-Test Column (Test Column) (List Column) columns_of (out-Test Column x))
  unfolding columns_of
  reads_out x = fold_out-Test Column (List Column) columns_layer x

  condition_on : (x : Test Column) → list_all covered (columns_of x) ≡ true → all_given on (condition_of sources layout k x) ≡ true
  condition_on x h = layer_on (out-Test Column x) (sym (ap (list_all covered) (reads_out x)) ∙ h)

  pub conditions_on : (es : List (Test Column)) → list_all (λ y. list_all covered (columns_of y)) es ≡ true → list_all on (conditions_from sources layout k es) ≡ true
  conditions_on es h = all_filter_map on (λ y. list_all covered (columns_of y)) (condition_of sources layout k) condition_on es h

  listed_in : (of : Operand Column) (a : Question Column) → list_all covered (operand_columns of ++ asked_columns a) ≡ true → all_given (has_name columns) (option_map (λ list. list.0) (asked_list sources k of a)) ≡ true
  listed_in (operand.Column c) (question.IsIn false list) h =
      given_map (has_name columns) (λ list. list.0) (option_map (λ name. (name, list)) (name_within sources k c))
      ∙ given_map (λ p. has_name columns p.0) (λ name. (name, list)) (name_within sources k c) ∙ left (covered c) true h
  listed_in (operand.Column c) (question.IsIn true list) h = refl
  listed_in (operand.Column c) question.Truth h = refl
  listed_in (operand.Column c) (question.Compares o with) h = refl
  listed_in (operand.Column c) (question.IsNull negated) h = refl
  listed_in (operand.Literal x) a h = refl

  layer_in : (x : Test-F Column (Test Column)) → list_all covered (columns_layer (map-Test Column (Test Column) (List Column) columns_of x)) ≡ true → all_given (has_name columns) (option_map (λ list. list.0) (list_layer sources k x)) ≡ true
  layer_in (Test-F.Or xs) h = refl
  layer_in (Test-F.And xs) h = refl
  layer_in (Test-F.Not x) h = refl
  layer_in (Test-F.Asks of question) h = listed_in of question h

  column_listed : (x : Test Column) → list_all covered (columns_of x) ≡ true → all_given (has_name columns) (listed_column sources k x) ≡ true
  column_listed x h = layer_in (out-Test Column x) (sym (ap (list_all covered) (reads_out x)) ∙ h)

  pub listed_on : (es : List (Test Column)) → list_all (λ y. list_all covered (columns_of y)) es ≡ true → list_all (has_name columns) (listed_from sources k es) ≡ true
  listed_on es h = all_filter_map (has_name columns) (λ y. list_all covered (columns_of y)) (listed_column sources k) column_listed es h

-- ---- what is named is covered

filter_map_append : {X Y : Type 0} (f : X → Option Y) (xs ys : List X) → filter_map f (xs ++ ys) ≡ filter_map f xs ++ filter_map f ys
filter_map_append f [] ys = refl
filter_map_append f (x ∷ xs) ys = ap (cons_option (f x)) (filter_map_append f xs ys) ∙ one (f x)
  where
    one : (o : Option _) → cons_option o (filter_map f xs ++ filter_map f ys) ≡ cons_option o (filter_map f xs) ++ filter_map f ys
    one None = refl
    one (Some y) = refl

name_there : (sources : List BoundSource) (k : ℕ) (before : List Column) (c : Column) (after : List Column) (name : List ℕ) → name_within sources k c ≡ Some name
    → has_name (names_within sources k (before ++ c ∷ after)) name ≡ true
name_there sources k before c after name h =
    ap (λ ns. has_name ns name) (filter_map_append (name_within sources k) before (c ∷ after) ∙ ap (λ o. names_within sources k before ++ cons_option o (names_within sources k after)) h)
    ∙ any_there (bytes_eq name) (names_within sources k before) name (names_within sources k after) (bytes_itself name)

declared_by : (sources : List BoundSource) (k : ℕ) (s : BoundSource) (names : List Column) (c : Column) (d : Option ColumnDecl) → slice_get s.table.columns c.column ≡ d
    → ((name : List ℕ) → option_map (λ (d : ColumnDecl). d.name) d ≡ Some name → has_name (names_within sources k names) name ≡ true)
    → all_given (has_name (columns_for sources names k s.table)) (option_map (λ (d : ColumnDecl). d.name) d) ≡ true
declared_by sources k s names c None e f = refl
declared_by sources k s names c (Some d) e f = column_there (names_within sources k names) s.table.columns c.column d e (f d.name refl)

covered_by : (sources : List BoundSource) (k : ℕ) (s : BoundSource) (names : List Column) (c : Column) (b : Bool) → (c.source == k) ≡ b → slice_get sources k ≡ Some s
    → ((name : List ℕ) → name_within sources k c ≡ Some name → has_name (names_within sources k names) name ≡ true)
    → all_given (has_name (columns_for sources names k s.table)) (if b then column_name sources c else None) ≡ true
covered_by sources k s names c false e h f = refl
covered_by sources k s names c true e h f =
    let at : slice_get sources c.source ≡ Some s = ap (slice_get sources) (eqb-true c.source k e) ∙ h in
    let is : column_name sources c ≡ column_in c s = ap (option_and_then (column_in c)) at in
    ap (all_given (has_name (columns_for sources names k s.table))) is
    ∙ declared_by sources k s names c (slice_get s.table.columns c.column) refl (λ name q. f name (ap (λ b. if b then column_name sources c else None) e ∙ is ∙ q))

all_covered : (sources : List BoundSource) (k : ℕ) (s : BoundSource) (names before cs : List Column) → names ≡ before ++ cs → slice_get sources k ≡ Some s
    → list_all (covered sources [] k (columns_for sources names k s.table)) cs ≡ true
all_covered sources k s names before [] e h = refl
all_covered sources k s names before (c ∷ cs) e h =
    and_from (covered sources [] k (columns_for sources names k s.table) c) (list_all (covered sources [] k (columns_for sources names k s.table)) cs)
    (covered_by sources k s names c (c.source == k) refl h (λ name q. ap (λ ns. has_name (names_within sources k ns) name) e ∙ name_there sources k before c cs name q))
    (all_covered sources k s names (before ++ c ∷ []) cs (e ∙ sym (append_assoc before (c ∷ []) cs)) h)

pub named_are_covered : (sources : List BoundSource) (k : ℕ) (s : BoundSource) (names : List Column) → slice_get sources k ≡ Some s
    → list_all (covered sources [] k (columns_for sources names k s.table)) names ≡ true
named_are_covered sources k s names h = all_covered sources k s names [] names refl h

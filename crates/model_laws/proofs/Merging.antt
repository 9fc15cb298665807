-- Canonical conditions, and conditions put among them.
use Rattle.std.proofs.Common.{◌≡◌, Bool, true, false, ◌&&◌, ◌||◌, not, cond, List, [], ◌∷◌, filter, refl, sym, ap, subst, ◌∙◌}
use Rattle.std.proofs.lemmas.Bool.{and_parts, and_from}
use Rattle.std.specs.List.{list_all}
use Rattle.std.specs.Ordering.{match_ordering}
use Rattle.std.specs.declared.cmp.Ordering.{Ordering}
use Rattle.std.specs.declared.cmp.Ordering.TheVariants.{Less, Equal, Greater}
use Rattle.sp_model.specs.Conditions.{is_scalar, condition_cmp, is_before, is_canonical}
use Rattle.sp_model.specs.Covers.{same_condition, is_among}
use Rattle.sp_model.specs.Keys.{put_condition}
use Rattle.sp_model.specs.declared.call.Condition.{Condition}
use Rattle.model_laws.proofs.Orders.{Scalar, before_trans, after_greater, greater_after, before_differs, after_differs, same_itself, same_exact, before_less}

abbrev pub is_scalar_condition : Condition → Bool
is_scalar_condition c = is_scalar c.value

abbrev pub Scalars : List Condition → Type 0
Scalars cs = list_all is_scalar_condition cs ≡ true

abbrev pub Canonical : List Condition → Type 0
Canonical cs = is_canonical cs ≡ true

abbrev After : Condition → List Condition → Type 0
After x cs = list_all (is_before x) cs ≡ true

pub left : (a b : Bool) → (a && b) ≡ true → a ≡ true
left a b h = (and_parts a b h).0

pub right : (a b : Bool) → (a && b) ≡ true → b ≡ true
right a b h = (and_parts a b h).1

head_scalar : (x : Condition) (xs : List Condition) → Canonical (x ∷ xs) → Scalar x
head_scalar x [] h = h
head_scalar x (y ∷ ys) h = left (is_scalar x.value) (is_before x y) (left (is_scalar x.value && is_before x y) (is_canonical (y ∷ ys)) h)

head_before : (x y : Condition) (ys : List Condition) → Canonical (x ∷ y ∷ ys) → is_before x y ≡ true
head_before x y ys h = right (is_scalar x.value) (is_before x y) (left (is_scalar x.value && is_before x y) (is_canonical (y ∷ ys)) h)

tail_canonical : (x : Condition) (xs : List Condition) → Canonical (x ∷ xs) → Canonical xs
tail_canonical x [] h = refl
tail_canonical x (y ∷ ys) h = right (is_scalar x.value && is_before x y) (is_canonical (y ∷ ys)) h

pub all_scalar : (xs : List Condition) → Canonical xs → Scalars xs
all_scalar [] h = refl
all_scalar (x ∷ xs) h = and_from (is_scalar x.value) (list_all is_scalar_condition xs) (head_scalar x xs h) (all_scalar xs (tail_canonical x xs h))

after_trans : (x y : Condition) (zs : List Condition) → Scalar x → Scalar y → Scalars zs → is_before x y ≡ true → After y zs → After x zs
after_trans x y [] sx sy s h k = refl
after_trans x y (z ∷ zs) sx sy s h k =
    let sz : Scalar z = left (is_scalar z.value) (list_all is_scalar_condition zs) s in
    let rest : Scalars zs = right (is_scalar z.value) (list_all is_scalar_condition zs) s in
    and_from (is_before x z) (list_all (is_before x) zs) (before_trans x y z sx sy sz h (left (is_before y z) (list_all (is_before y) zs) k))
    (after_trans x y zs sx sy rest h (right (is_before y z) (list_all (is_before y) zs) k))

sorted_after : (x : Condition) (xs : List Condition) → Canonical (x ∷ xs) → After x xs
sorted_after x [] h = refl
sorted_after x (y ∷ ys) h =
    let more : Canonical (y ∷ ys) = tail_canonical x (y ∷ ys) h in
    and_from (is_before x y) (list_all (is_before x) ys) (head_before x y ys h)
    (after_trans x y ys (head_scalar x (y ∷ ys) h) (head_scalar y ys more) (all_scalar ys (tail_canonical y ys more)) (head_before x y ys h) (sorted_after y ys more))

canonical_from : (x : Condition) (xs : List Condition) → Scalar x → After x xs → Canonical xs → Canonical (x ∷ xs)
canonical_from x [] sx a h = sx
canonical_from x (y ∷ ys) sx a h =
    and_from (is_scalar x.value && is_before x y) (is_canonical (y ∷ ys)) (and_from (is_scalar x.value) (is_before x y) sx (left (is_before x y) (list_all (is_before x) ys) a)) h

-- ---- a condition put in its place

all_put_by : (p : Condition → Bool) (c d : Condition) (ds rest : List Condition) (o : Ordering) → p c ≡ true → list_all p (d ∷ ds) ≡ true → list_all p rest ≡ true
    → list_all p (match_ordering o (c ∷ d ∷ ds) (d ∷ ds) (d ∷ rest)) ≡ true
all_put_by p c d ds rest Less h k r = and_from (p c) (list_all p (d ∷ ds)) h k
all_put_by p c d ds rest Equal h k r = k
all_put_by p c d ds rest Greater h k r = and_from (p d) (list_all p rest) (left (p d) (list_all p ds) k) r

pub all_put : (p : Condition → Bool) (c : Condition) (ds : List Condition) → p c ≡ true → list_all p ds ≡ true → list_all p (put_condition c ds) ≡ true
all_put p c [] h k = and_from (p c) true h refl
all_put p c (d ∷ ds) h k = all_put_by p c d ds (put_condition c ds) (condition_cmp c d) h k (all_put p c ds h (right (p d) (list_all p ds) k))

put_canonical_by : (c d : Condition) (ds rest : List Condition) (o : Ordering) → condition_cmp c d ≡ o → Scalar c → Canonical (d ∷ ds) → (is_before d c ≡ true → Canonical (d ∷ rest))
    → Canonical (match_ordering o (c ∷ d ∷ ds) (d ∷ ds) (d ∷ rest))
put_canonical_by c d ds rest Less e sc h r =
    let before : is_before c d ≡ true = ap (λ o. match_ordering o true false false) e in
    and_from (is_scalar c.value && is_before c d) (is_canonical (d ∷ ds)) (and_from (is_scalar c.value) (is_before c d) sc before) h
put_canonical_by c d ds rest Equal e sc h r = h
put_canonical_by c d ds rest Greater e sc h r = r (greater_after d c (head_scalar d ds h) sc e)

pub put_canonical : (c : Condition) (ds : List Condition) → Scalar c → Canonical ds → Canonical (put_condition c ds)
put_canonical c [] sc h = sc
put_canonical c (d ∷ ds) sc h =
    put_canonical_by c d ds (put_condition c ds) (condition_cmp c d) refl sc h
    (λ before. canonical_from d (put_condition c ds) (head_scalar d ds h) (all_put (is_before d) c ds before (sorted_after d ds h)) (put_canonical c ds sc (tail_canonical d ds h)))

put_front : (x : Condition) (xs : List Condition) → After x xs → put_condition x xs ≡ x ∷ xs
put_front x [] h = refl
put_front x (y ∷ ys) h =
    ap (λ o. match_ordering o (x ∷ y ∷ ys) (y ∷ ys) (y ∷ put_condition x ys)) (before_less x y (left (is_before x y) (list_all (is_before x) ys) h))

-- ---- conditions put one after another

abbrev pub put_all : List Condition → List Condition → List Condition
put_all [] ks = ks
put_all (f ∷ fs) ks = put_condition f (put_all fs ks)

put_nil_all : (rs : List Condition) → Canonical rs → put_all rs [] ≡ rs
put_nil_all [] h = refl
put_nil_all (x ∷ xs) h = ap (put_condition x) (put_nil_all xs (tail_canonical x xs h)) ∙ put_front x xs (sorted_after x xs h)

put_all_past : (fs : List Condition) (y : Condition) (ks : List Condition) → Scalar y → Scalars fs → After y fs → put_all fs (y ∷ ks) ≡ y ∷ put_all fs ks
put_all_past [] y ks sy s h = refl
put_all_past (f ∷ fs) y ks sy s h =
    let sf : Scalar f = left (is_scalar f.value) (list_all is_scalar_condition fs) s in
    let more : Scalars fs = right (is_scalar f.value) (list_all is_scalar_condition fs) s in
    let later : put_all fs (y ∷ ks) ≡ y ∷ put_all fs ks = put_all_past fs y ks sy more (right (is_before y f) (list_all (is_before y) fs) h) in
    let greater : condition_cmp f y ≡ Greater = after_greater y f sy sf (left (is_before y f) (list_all (is_before y) fs) h) in
    ap (put_condition f) later
    ∙ ap (λ o. match_ordering o (f ∷ y ∷ put_all fs ks) (y ∷ put_all fs ks) (y ∷ put_condition f (put_all fs ks))) greater

-- ---- conditions among others

abbrev pub rest_of : List Condition → List Condition → List Condition
rest_of ks rs = filter (λ c. not (is_among ks c)) rs

pub all_filter : {X : Type 0} (q p : X → Bool) (xs : List X) → list_all q xs ≡ true → list_all q (filter p xs) ≡ true
all_filter q p [] h = refl
all_filter q p (x ∷ xs) h =
    let later : list_all q (filter p xs) ≡ true = all_filter q p xs (right (q x) (list_all q xs) h) in
    elim (p x) as (λ b. list_all q (cond b (x ∷ filter p xs) (filter p xs)) ≡ true) [ true ↦ and_from (q x) (list_all q (filter p xs)) (left (q x) (list_all q xs) h) later | false ↦ later ]

among_by : (p : Condition → Bool) (x y : Condition) (rest : Bool) (b : Bool) → same_condition y x ≡ b → (b || rest) ≡ true → Scalar x → Scalar y → p x ≡ true → (rest ≡ true → p y ≡ true) → p y ≡ true
among_by p x y rest true e h sx sy k later = subst (λ z. p z ≡ true) (sym (same_exact y x sy sx e)) k
among_by p x y rest false e h sx sy k later = later h

pub among_all : (p : Condition → Bool) (xs : List Condition) (y : Condition) → Scalars xs → Scalar y → is_among xs y ≡ true → list_all p xs ≡ true → p y ≡ true
among_all p [] y s sy h k = cc
among_all p (x ∷ xs) y s sy h k =
    among_by p x y (is_among xs y) (same_condition y x) refl h (left (is_scalar x.value) (list_all is_scalar_condition xs) s) sy (left (p x) (list_all p xs) k)
    (λ more. among_all p xs y (right (is_scalar x.value) (list_all is_scalar_condition xs) s) sy more (right (p x) (list_all p xs) k))

among_tail : (x : Condition) (xs zs : List Condition) → Scalar x → Scalars zs → After x zs → list_all (is_among (x ∷ xs)) zs ≡ true → list_all (is_among xs) zs ≡ true
among_tail x xs [] sx s a h = refl
among_tail x xs (z ∷ zs) sx s a h =
    let sz : Scalar z = left (is_scalar z.value) (list_all is_scalar_condition zs) s in
    let differs : same_condition z x ≡ false = after_differs x z sx sz (left (is_before x z) (list_all (is_before x) zs) a) in
    let here : is_among (x ∷ xs) z ≡ true = left (is_among (x ∷ xs) z) (list_all (is_among (x ∷ xs)) zs) h in
    and_from (is_among xs z) (list_all (is_among xs) zs) (ap (λ b. b || is_among xs z) (sym differs) ∙ here)
    (among_tail x xs zs sx (right (is_scalar z.value) (list_all is_scalar_condition zs) s) (right (is_before x z) (list_all (is_before x) zs) a)
    (right (is_among (x ∷ xs) z) (list_all (is_among (x ∷ xs)) zs) h))

not_among : (x : Condition) (zs : List Condition) → After x zs → is_among zs x ≡ false
not_among x [] a = refl
not_among x (z ∷ zs) a =
    ap (λ b. b || is_among zs x) (before_differs x z (left (is_before x z) (list_all (is_before x) zs) a)) ∙ not_among x zs (right (is_before x z) (list_all (is_before x) zs) a)

rest_past : (x : Condition) (ys zs : List Condition) → Scalar x → Scalars zs → After x zs → rest_of (x ∷ ys) zs ≡ rest_of ys zs
rest_past x ys [] sx s a = refl
rest_past x ys (z ∷ zs) sx s a =
    let sz : Scalar z = left (is_scalar z.value) (list_all is_scalar_condition zs) s in
    let differs : same_condition z x ≡ false = after_differs x z sx sz (left (is_before x z) (list_all (is_before x) zs) a) in
    let later : rest_of (x ∷ ys) zs ≡ rest_of ys zs = rest_past x ys zs sx (right (is_scalar z.value) (list_all is_scalar_condition zs) s) (right (is_before x z) (list_all (is_before x) zs) a) in
    ap (λ b. cond (not (b || is_among ys z)) (z ∷ rest_of (x ∷ ys) zs) (rest_of (x ∷ ys) zs)) differs
    ∙ ap (λ l. cond (not (is_among ys z)) (z ∷ l) l) later

rest_nil : (rs : List Condition) → rest_of [] rs ≡ rs
rest_nil [] = refl
rest_nil (r ∷ rs) = ap (λ l. r ∷ l) (rest_nil rs)

-- the further conditions put among the kept ones are the request's
merge_same : (x : Condition) (xs ys : List Condition) → Canonical (x ∷ xs) → Canonical (x ∷ ys) → list_all (is_among (x ∷ xs)) ys ≡ true
    → (list_all (is_among xs) ys ≡ true → put_all (rest_of ys xs) ys ≡ xs) → put_all (rest_of (x ∷ ys) (x ∷ xs)) (x ∷ ys) ≡ x ∷ xs
merge_same x xs ys h k m ih =
    let sx : Scalar x = head_scalar x xs h in
    let sxs : Scalars xs = all_scalar xs (tail_canonical x xs h) in
    let sys : Scalars ys = all_scalar ys (tail_canonical x ys k) in
    let first : rest_of (x ∷ ys) (x ∷ xs) ≡ rest_of (x ∷ ys) xs =
    ap (λ b. cond (not (b || is_among ys x)) (x ∷ rest_of (x ∷ ys) xs) (rest_of (x ∷ ys) xs)) (same_itself x sx) in
    let past : rest_of (x ∷ ys) xs ≡ rest_of ys xs = rest_past x ys xs sx sxs (sorted_after x xs h) in
    ap (λ l. put_all l (x ∷ ys)) (first ∙ past)
    ∙ put_all_past (rest_of ys xs) x ys sx (all_filter is_scalar_condition (λ c. not (is_among ys c)) xs sxs) (all_filter (is_before x) (λ c. not (is_among ys c)) xs (sorted_after x xs h))
    ∙ ap (λ l. x ∷ l) (ih (among_tail x xs ys sx sys (sorted_after x ys k) m))

merge_more : (x : Condition) (xs ks : List Condition) → Canonical (x ∷ xs) → Scalars ks → After x ks → list_all (is_among (x ∷ xs)) ks ≡ true
    → (list_all (is_among xs) ks ≡ true → put_all (rest_of ks xs) ks ≡ xs) → put_all (rest_of ks (x ∷ xs)) ks ≡ x ∷ xs
merge_more x xs ks h sk a m ih =
    let first : rest_of ks (x ∷ xs) ≡ x ∷ rest_of ks xs = ap (λ b. cond (not b) (x ∷ rest_of ks xs) (rest_of ks xs)) (not_among x ks a) in
    ap (λ l. put_all l ks) first ∙ ap (put_condition x) (ih (among_tail x xs ks (head_scalar x xs h) sk a m)) ∙ put_front x xs (sorted_after x xs h)

merge_by : (x : Condition) (xs : List Condition) (y : Condition) (ys : List Condition) (b : Bool) → same_condition y x ≡ b → (b || is_among xs y) ≡ true → Canonical (x ∷ xs) → Canonical (y ∷ ys)
    → list_all (is_among (x ∷ xs)) (y ∷ ys) ≡ true → ((ks : List Condition) → Canonical ks → list_all (is_among xs) ks ≡ true → put_all (rest_of ks xs) ks ≡ xs)
    → put_all (rest_of (y ∷ ys) (x ∷ xs)) (y ∷ ys) ≡ x ∷ xs
merge_by x xs y ys true e among h k m ih =
    let same : y ≡ x = same_exact y x (head_scalar y ys k) (head_scalar x xs h) e in
    let k' : Canonical (x ∷ ys) = subst (λ z. Canonical (z ∷ ys)) same k in
    let m' : list_all (is_among (x ∷ xs)) ys ≡ true = right (is_among (x ∷ xs) y) (list_all (is_among (x ∷ xs)) ys) m in
    subst (λ z. put_all (rest_of (z ∷ ys) (x ∷ xs)) (z ∷ ys) ≡ x ∷ xs) (sym same) (merge_same x xs ys h k' m' (ih ys (tail_canonical x ys k')))
merge_by x xs y ys false e among h k m ih =
    let sx : Scalar x = head_scalar x xs h in
    let sy : Scalar y = head_scalar y ys k in
    let before : is_before x y ≡ true = among_all (is_before x) xs y (all_scalar xs (tail_canonical x xs h)) sy among (sorted_after x xs h) in
    let after : After x (y ∷ ys) = and_from (is_before x y) (list_all (is_before x) ys) before (after_trans x y ys sx sy (all_scalar ys (tail_canonical y ys k)) before (sorted_after y ys k)) in
    merge_more x xs (y ∷ ys) h (all_scalar (y ∷ ys) k) after m (ih (y ∷ ys) k)

pub merge : (rs ks : List Condition) → Canonical rs → Canonical ks → list_all (is_among rs) ks ≡ true → put_all (rest_of ks rs) ks ≡ rs
merge [] [] h k m = refl
merge (x ∷ xs) [] h k m = ap (λ l. put_all l []) (rest_nil (x ∷ xs)) ∙ put_nil_all (x ∷ xs) h
merge [] (y ∷ ys) h k m = cc
merge (x ∷ xs) (y ∷ ys) h k m =
    merge_by x xs y ys (same_condition y x) refl (left (is_among (x ∷ xs) y) (list_all (is_among (x ∷ xs)) ys) m) h k m (λ ks canonical among. merge xs ks (tail_canonical x xs h) canonical among)

-- ---- a test of all of them

both_ways : (a b : Bool) → (a ≡ true → b ≡ true) → (b ≡ true → a ≡ true) → a ≡ b
both_ways true b f g = sym (f refl)
both_ways false true f g = g refl
both_ways false false f g = refl

pub all_of_among : (q : Condition → Bool) (rs ks : List Condition) → Scalars rs → Scalars ks → list_all (is_among rs) ks ≡ true → list_all q rs ≡ true → list_all q ks ≡ true
all_of_among q rs [] sr sk m h = refl
all_of_among q rs (k ∷ ks) sr sk m h =
    and_from (q k) (list_all q ks) (among_all q rs k sr (left (is_scalar k.value) (list_all is_scalar_condition ks) sk) (left (is_among rs k) (list_all (is_among rs) ks) m) h)
    (all_of_among q rs ks sr (right (is_scalar k.value) (list_all is_scalar_condition ks) sk) (right (is_among rs k) (list_all (is_among rs) ks) m) h)

rejoin_by : (q : Condition → Bool) (ks rs : List Condition) (r : Condition) (b : Bool) → is_among ks r ≡ b → Scalars ks → Scalar r → list_all q ks ≡ true
    → list_all q (cond (not b) (r ∷ rest_of ks rs) (rest_of ks rs)) ≡ true → (list_all q (rest_of ks rs) ≡ true → list_all q rs ≡ true) → list_all q (r ∷ rs) ≡ true
rejoin_by q ks rs r true e sk sr h f later = and_from (q r) (list_all q rs) (among_all q ks r sk sr e h) (later f)
rejoin_by q ks rs r false e sk sr h f later = and_from (q r) (list_all q rs) (left (q r) (list_all q (rest_of ks rs)) f) (later (right (q r) (list_all q (rest_of ks rs)) f))

rejoin : (q : Condition → Bool) (ks rs : List Condition) → Scalars ks → Scalars rs → list_all q ks ≡ true → list_all q (rest_of ks rs) ≡ true → list_all q rs ≡ true
rejoin q ks [] sk sr h f = refl
rejoin q ks (r ∷ rs) sk sr h f =
    rejoin_by q ks rs r (is_among ks r) refl sk (left (is_scalar r.value) (list_all is_scalar_condition rs) sr) h f
    (rejoin q ks rs sk (right (is_scalar r.value) (list_all is_scalar_condition rs) sr) h)

-- what holds of the request's conditions holds of the kept and of the further ones
pub all_split : (q : Condition → Bool) (rs ks : List Condition) → Scalars rs → Scalars ks → list_all (is_among rs) ks ≡ true → list_all q rs ≡ (list_all q ks && list_all q (rest_of ks rs))
all_split q rs ks sr sk m =
    both_ways (list_all q rs) (list_all q ks && list_all q (rest_of ks rs))
    (λ h. and_from (list_all q ks) (list_all q (rest_of ks rs)) (all_of_among q rs ks sr sk m h) (all_filter q (λ c. not (is_among ks c)) rs h))
    (λ h. rejoin q ks rs sk sr (left (list_all q ks) (list_all q (rest_of ks rs)) h) (right (list_all q ks) (list_all q (rest_of ks rs)) h))

-- where the conditions are the same there is no further one
pub rest_none : (ks rs : List Condition) → list_all (is_among ks) rs ≡ true → rest_of ks rs ≡ []
rest_none ks [] h = refl
rest_none ks (r ∷ rs) h =
    ap (λ b. cond (not b) (r ∷ rest_of ks rs) (rest_of ks rs)) (left (is_among ks r) (list_all (is_among ks) rs) h) ∙ rest_none ks rs (right (is_among ks r) (list_all (is_among ks) rs) h)

-- What a catalog has of a book that is told is what the book declares.
use Rattle.std.proofs.Common.{◌≡◌, ◌⊎◌, inl, inr, ℕ, Bool, true, false, List, [], ◌∷◌, ◌++◌, map, Option, Some, None, IsSome, Result, Ok, Err, refl, ap, subst, sym, ◌∙◌}
use Rattle.std.specs.Prelude.{All, Contains, IsTrue, bytes_eq, slice_index_or}
use Rattle.std.specs.List.{list_any}
use Rattle.sp_model.specs.Book.{Book}
use Rattle.sp_model.specs.Names.{has_name}
use Rattle.sp_model.specs.declared.declaration.Declaration.{Declaration}
use Rattle.decl_words.specs.BookTables.{book_declaration}
use Rattle.decl_words.specs.declared.fault.DeclFault.{DeclFault}
use Rattle.desk.specs.States.{DeskState}
use Rattle.declaration_run.specs.Declaring.{IsTold, AllDeclared, AgreesIn, Agrees, AllAgree, DiffersIn, Differs, AreDone, IsFirstUndeclared, IsUndeclared, first_in}
use Rattle.declaration_run.specs.declared.undeclared.Undeclared.{Undeclared}
use Rattle.declaration_run.specs.declared.undeclared.Undeclared.TheVariants as undeclared
use Rattle.sql_grammar.specs.declared.ast.Statement.{Statement}
use Rattle.sql_bind.proofs.Agreeing.{binds_by_its_connections}
use Rattle.sql_bind.proofs.Declared.{split}
use Rattle.sql_bind.specs.Answer.{bound, plain_connections}
use Rattle.sql_bind.specs.Known.{Known, declaration_of}
use Rattle.statement_run.specs.Answers.{sound_declaration, declarations, AreDeclared, IsNext, IsRefusal, IsFirstRefusal, IsAskedNext, groups_of}
use Rattle.statement_run.specs.declared.answer.BlockFault.TheVariants as fault
use Rattle.statement_run.proofs.Agreements.{some_is}
use Rattle.statement_run.proofs.Eaches.{itself}

-- what one has the other has, too
abbrev Follow : (List ℕ → Option Declaration) → (List ℕ → Option Declaration) → Type 0
Follow ds es = (name : List ℕ) (d : Declaration) → ds name ≡ Some d → es name ≡ Some d

same_some : (a b : Declaration) → Some a ≡ Some b → a ≡ b
same_some a b e = cc

follows : (book : Book) (known : Known) → IsTold book known → Follow (declaration_of known) (declarations book)
follows book known told name d is = ap sound_declaration (told name d is)

-- ---- agreement

module _ (ds es : List ℕ → Option Declaration) (follow : Follow ds es) where
  abbrev Has : List (List ℕ) → Type 0
  Has names = (name : List ℕ) → has_name names name ≡ true → IsSome (ds name)

  agrees_in : (names : List (List ℕ)) (c : List ℕ) (group : List (List ℕ)) → Has names → has_name names c ≡ true → AgreesIn ds names c group → AgreesIn es names c group
  agrees_in names c group has there agree first theirs own of is_first is_theirs is_own =
      let f : (d : Declaration) × (ds first ≡ Some d) = some_is (ds first) (has first (first_there names is_first)) in
      let o : (d : Declaration) × (ds c ≡ Some d) = some_is (ds c) (has c there) in
      let as_theirs : f.0 ≡ theirs = same_some f.0 theirs (sym (follow first f.0 f.1) ∙ is_theirs) in
      let as_own : o.0 ≡ own = same_some o.0 own (sym (follow c o.0 o.1) ∙ is_own) in
      sym as_theirs ∙ (agree first f.0 o.0 of is_first f.1 o.1 ∙ as_own)
    where
      first_there : (ns : List (List ℕ)) → first_in ns group ≡ Some first → has_name ns first ≡ true
      first_there [] e = absurd (cc)
      first_there (n ∷ ns) e = elim (split (has_name group n)) [
        | inl is ↦ here (rw is at e)
        | inr isnt ↦ later (first_there ns (rw isnt at e))
      ]
        where
          here : Some n ≡ Some first → has_name (n ∷ ns) first ≡ true
          here same = let is : n ≡ first = cc in subst (λ (x : List ℕ). has_name (n ∷ ns) x ≡ true) is (rw (itself n) refl)

          later : has_name ns first ≡ true → has_name (n ∷ ns) first ≡ true
          later among = elim (split (bytes_eq first n)) [
            | inl it ↦ rw it refl
            | inr isnt ↦ rw (isnt, among) refl
          ]

  all_agree : (groups : List (List (List ℕ))) (before cs : List (List ℕ)) → Has (before ++ cs) → AllAgree ds groups before cs → AllAgree es groups before cs
  all_agree groups before [] has agree = tt
  all_agree groups before (c ∷ cs) has agree =
      (λ k d within. agrees_in (before ++ c ∷ []) c (slice_index_or groups k d) (part (before ++ c ∷ []) cs all) (last before) (agree.0 k d within), all_agree groups (before ++ c ∷ []) cs all agree.1)
    where
      grouped : (xs : List (List ℕ)) → (xs ++ c ∷ []) ++ cs ≡ xs ++ c ∷ cs
      grouped [] = refl
      grouped (x ∷ xs) = ap (λ ys. x ∷ ys) (grouped xs)

      all : Has ((before ++ c ∷ []) ++ cs)
      all = subst Has (sym (grouped before)) has

      last : (xs : List (List ℕ)) → has_name (xs ++ c ∷ []) c ≡ true
      last [] = rw (itself c) refl
      last (x ∷ xs) = elim (split (bytes_eq c x)) [
        | inl it ↦ rw it refl
        | inr isnt ↦ rw (isnt, last xs) refl
      ]

      wider : (xs ys : List (List ℕ)) (n : List ℕ) → has_name xs n ≡ true → has_name (xs ++ ys) n ≡ true
      wider [] ys n h = absurd (cc)
      wider (x ∷ xs) ys n h = elim (split (bytes_eq n x)) [
        | inl it ↦ rw it refl
        | inr isnt ↦ rw (isnt, wider xs ys n (rw isnt at h)) refl
      ]

      part : (xs ys : List (List ℕ)) → Has (xs ++ ys) → Has xs
      part xs ys h n among = h n (wider xs ys n among)

  differs : (names : List (List ℕ)) (groups : List (List (List ℕ))) (c : List ℕ) → Differs ds names groups c → Differs es names groups c
  differs names groups c d = (
    d.0,
    d.1,
    record {
      first = d.2.first;
      theirs = d.2.theirs;
      own = d.2.own;
      among = d.2.among;
      is_first = d.2.is_first;
      declares_theirs = follow d.2.first d.2.theirs d.2.declares_theirs;
      declares_own = follow c d.2.own d.2.declares_own;
      differ = d.2.differ;
    },
  )

some_still : (a b : Option Declaration) → ((d : Declaration) → a ≡ Some d → b ≡ Some d) → IsSome a → IsSome b
some_still a b next h = let s : (d : Declaration) × (a ≡ Some d) = some_is a h in subst IsSome (sym (next s.0 s.1)) refl

pub are_declared : (book : Book) (known : Known) (groups : List (List (List ℕ))) (connections : List (List ℕ)) → IsTold book known → AreDone known groups connections → AreDeclared book groups connections
are_declared book known groups connections told done = record {
  each = λ c among. some_still (declaration_of known c) (declarations book c) (λ d is. follows book known told c d is) (done.0 c among);
  agree = all_agree (declaration_of known) (declarations book) (follows book known told) groups [] connections done.0 done.1;
}

-- a statement is bound by what the book declares as by what is known of it
pub bound_by_book : (book : Book) (known : Known) (s : Statement) → IsTold book known → AllDeclared known (plain_connections known.settings s)
    → bound known.settings (declaration_of known) s ≡ bound known.settings (declarations book) s
bound_by_book book known s told declared = binds_by_its_connections known.settings (declaration_of known) (declarations book) s
    (λ name among. let d : (x : Declaration) × (declaration_of known name ≡ Some x) = some_is (declaration_of known name) (declared name among) in d.1 ∙ sym (follows book known told name d.0 d.1))

-- ---- the first without a declaration

is_next : (book : Book) (known : Known) (groups : List (List (List ℕ))) (connections before : List (List ℕ)) (c : List ℕ) (after : List (List ℕ)) → IsTold book known
    → connections ≡ before ++ c ∷ after → AreDone known groups before → IsNext book groups connections before c
is_next book known groups connections before c after told among done = record { after = after; among = among; declared = are_declared book known groups before told done }

module _ (tells : Bool) (book : Book) (s : DeskState) (known : Known) (connections : List (List ℕ)) (groups : List (List (List ℕ))) (told : IsTold book known) (telling : IsTrue tells) where
  pub refused_first : (name : List ℕ) (f : DeclFault) → IsFirstUndeclared tells book s known connections groups (undeclared.Refused name f) → IsFirstRefusal book groups connections (fault.BadDeclaration name f)
  refused_first name f u = (u.before, u.connection, is_next book known groups connections u.before u.connection u.after told u.among u.done, (u.is.0, u.is.1 telling))

  pub differing_first : (name : List ℕ) → IsFirstUndeclared tells book s known connections groups (undeclared.Differs name) → IsFirstRefusal book groups connections (fault.DeclarationsDiffer name)
  differing_first name u = (
    u.before,
    u.connection,
    is_next book known groups connections u.before u.connection u.after told u.among u.done,
    (u.is.0, differs (declaration_of known) (declarations book) (follows book known told) (u.before ++ u.connection ∷ []) groups u.connection u.is.1),
  )

  pub asked_next : (name : List ℕ) (losses : ℕ) → IsFirstUndeclared tells book s known connections groups (undeclared.RestartsSpent name losses) → IsAskedNext book groups connections name
  asked_next name losses u = subst (IsAskedNext book groups connections) (sym u.is.0) (u.before, is_next book known groups connections u.before u.connection u.after told u.among u.done)

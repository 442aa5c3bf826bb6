-- Whether bytes spell a tree, and say a project, can be told, and they have one tree and say one project at most.
use Rattle.std.proofs.Common.{◌≡◌, ℕ, zero, suc, ◌<◌, true, false, List, [], ◌∷◌, length, Option, Some, None, refl, sym, ap, subst, ◌∙◌, ◌⊎◌, inl, inr, arith}
use Rattle.std.specs.Prelude.{not}
use Rattle.std.specs.Str.{is_utf8, IsUtf8}
use Rattle.std.proofs.lemmas.Bool.{cases_Bool, false≢true}
use Rattle.std.proofs.lemmas.Option.{none-some, same_Some}
use Rattle.std.proofs.lemmas.Str.{IsUtf8-from_is_utf8, is_utf8-from_IsUtf8}
use Rattle.lg_circ.specs.declared.element.Element.{Element}
use Rattle.lg_circ.specs.declared.project.Project.{Project}
use Rattle.lg_circ.specs.Tree.{has_levels, greatest_level}
use Rattle.lg_circ.specs.Grammar.{IsMisc, SpellsText}
use Rattle.lg_circ.specs.Meaning.{project_of}
use Rattle.lg_circ.specs.Project.{SaysProject, IsTooDeep}
use Rattle.lg_circ.specs.Reading.{after_misc, event_at, with_text, Token, nothing, stands, starts, ends, Next, goes, whole, deep, moves, root_at, bare}
use Rattle.lg_circ.specs.Grown.{Closed, Completes, Stands}
use Rattle.lg_circ.proofs.Tokens.{Means, event_seen, event_means}
use Rattle.lg_circ.proofs.Steps.{seen_as, moves_to, moves_from, moves_none, event_shorter}
use Rattle.lg_circ.proofs.Roots.{misc_all, all_misc, Root, root_seen, root_means}

abbrev Event : Type 0
Event = List ℕ × Token × List ℕ

-- there is at most one root at fewer bytes than so many
abbrev OneBelow : ℕ → Type 0
OneBelow n = (top : Element) (around : List Element) (bytes : List ℕ) (r s : Element) → length bytes < n → Completes top around bytes r → Completes top around bytes s → r ≡ s

one_behind : (n : ℕ) → OneBelow n → (next : Next) (rest : List ℕ) (r s : Element) → length rest < n → Stands next rest r → Stands next rest s → r ≡ s
one_behind n below (goes top around) rest r s lt hr hs = below top around rest r s lt hr hs
one_behind n below (whole e) rest r s lt hr hs = hr.0 ∙ sym hs.0
one_behind n below deep rest r s lt hr hs = absurd hr

one_step : (n : ℕ) → OneBelow n → (top : Element) (around : List Element) (x : List ℕ × Token × List ℕ) (r s : Element) (o : Option Next) → moves (with_text top x.0) around x.1 ≡ o → length x.2 < n → Means (Closed around r) (with_text top x.0) x.1 x.2 → Means (Closed around s) (with_text top x.0) x.1 x.2 → r ≡ s
one_step n below top around x r s None e lt hr hs = absurd (moves_none (Closed around r) (with_text top x.0) around x.1 x.2 e hr)
one_step n below top around x r s (Some next) e lt hr hs = one_behind n below next x.2 r s lt (moves_to (with_text top x.0) around x.1 x.2 r next e hr) (moves_to (with_text top x.0) around x.1 x.2 s next e hs)

one_root : (n : ℕ) → OneBelow n
one_root zero top around bytes r s lt hr hs = absurd (omega (arith, lt))
one_root (suc n) top around bytes r s lt hr hs =
    let x = event_seen (Closed around r) top bytes hr in
    let event : Event = (x.text, x.token, x.rest) in
    let shorter = event_shorter bytes event x.read in
    one_step n (λ t a b p q l k m. one_root n t a b p q l k m) top around event r s (moves (with_text top x.text) around x.token) refl (omega (arith, lt, shorter)) x.means (seen_as (Closed around s) top bytes event x.read hs)

-- one root at most behind the first token
first_root : (token : Token) (rest : List ℕ) (d e : Element) → Root token rest d → Root token rest e → d ≡ e
first_root nothing rest d e hd he = absurd hd
first_root (ends name) rest d e hd he = absurd hd
first_root (stands name attributes) rest d e hd he = hd.0 ∙ sym he.0
first_root (starts name attributes) rest d e hd he = one_root (suc (length rest)) (bare name attributes) [] rest d e (omega arith) hd he

-- a text has at most one tree
pub same_tree : (bytes : List ℕ) (d e : Element) → SpellsText d bytes → SpellsText e bytes → d ≡ e
same_tree bytes d e sd se =
    let x = root_seen d bytes sd in
    let y = root_seen e bytes se in
    let same : (y.token, y.rest) ≡ (x.token, x.rest) = same_Some (y.token, y.rest) (x.token, x.rest) (sym y.read ∙ x.read) in
    first_root x.token x.rest d e x.means (subst (λ (z : Token × List ℕ). Root z.0 z.1 e) same y.means)

-- there is something of a kind, or nothing
abbrev pub SomeOrNone : {A : Type 0} → (A → Type 0) → Type 0
SomeOrNone {A} P = ((x : A) × P x) ⊎ ((x : A) → P x → ⊥)

misc_or_not : (bytes : List ℕ) → IsMisc bytes ⊎ (IsMisc bytes → ⊥)
misc_or_not bytes = by_rest (after_misc (suc (length bytes)) bytes) refl
  where
    by_rest : (rest : List ℕ) → after_misc (suc (length bytes)) bytes ≡ rest → IsMisc bytes ⊎ (IsMisc bytes → ⊥)
    by_rest [] e = inl (all_misc bytes e)
    by_rest (c ∷ cs) e = inr (λ m. let no = sym e ∙ misc_all bytes m in cc)

abbrev ToldBelow : ℕ → Type 0
ToldBelow n = (top : Element) (around : List Element) (bytes : List ℕ) → length bytes < n → SomeOrNone (Completes top around bytes)

told_behind : (n : ℕ) → ToldBelow n → (next : Next) (rest : List ℕ) → length rest < n → SomeOrNone (Stands next rest)
told_behind n below (goes top around) rest lt = below top around rest lt
told_behind n below (whole e) rest lt = by_misc (misc_or_not rest)
  where
    by_misc : IsMisc rest ⊎ (IsMisc rest → ⊥) → SomeOrNone (Stands (whole e) rest)
    by_misc (inl m) = inl (e, (refl, m))
    by_misc (inr m) = inr (λ r h. m h.1)
told_behind n below deep rest lt = inr (λ r h. h)

told_step : (n : ℕ) → ToldBelow n → (top : Element) (around : List Element) (bytes : List ℕ) (x : List ℕ × Token × List ℕ) → event_at bytes ≡ Some x → length x.2 < n → (o : Option Next) → moves (with_text top x.0) around x.1 ≡ o → SomeOrNone (Completes top around bytes)
told_step n below top around bytes x e lt None m = inr (λ r h. moves_none (Closed around r) (with_text top x.0) around x.1 x.2 m (seen_as (Closed around r) top bytes x e h))
told_step n below top around bytes x e lt (Some next) m = by_told (told_behind n below next x.2 lt)
  where
    by_told : SomeOrNone (Stands next x.2) → SomeOrNone (Completes top around bytes)
    by_told (inl f) = inl (f.0, event_means (Closed around f.0) top bytes x e (moves_from (with_text top x.0) around x.1 x.2 f.0 next m f.1))
    by_told (inr f) = inr (λ r h. f r (moves_to (with_text top x.0) around x.1 x.2 r next m (seen_as (Closed around r) top bytes x e h)))

told_event : (n : ℕ) → ToldBelow n → (top : Element) (around : List Element) (bytes : List ℕ) → length bytes < suc n → (o : Option (List ℕ × Token × List ℕ)) → event_at bytes ≡ o → SomeOrNone (Completes top around bytes)
told_event n below top around bytes lt None e = inr (λ r h. let x = event_seen (Closed around r) top bytes h in none-some (x.text, x.token, x.rest) (sym e ∙ x.read))
told_event n below top around bytes lt (Some x) e = told_step n below top around bytes x e (omega (arith, lt, event_shorter bytes x e)) (moves (with_text top x.0) around x.1) refl

told_root : (n : ℕ) → ToldBelow n
told_root zero top around bytes lt = absurd (omega (arith, lt))
told_root (suc n) top around bytes lt = told_event n (λ t a b l. told_root n t a b l) top around bytes lt (event_at bytes) refl

told_first : (token : Token) (rest : List ℕ) → SomeOrNone (Root token rest)
told_first nothing rest = inr (λ r h. h)
told_first (ends name) rest = inr (λ r h. h)
told_first (stands name attributes) rest = told_behind (suc (length rest)) (λ t a b l. told_root (suc (length rest)) t a b l) (whole (bare name attributes)) rest (omega arith)
told_first (starts name attributes) rest = told_root (suc (length rest)) (bare name attributes) [] rest (omega arith)

-- whether bytes spell a tree
pub tree_or_not : (bytes : List ℕ) → SomeOrNone (λ root. SpellsText root bytes)
tree_or_not bytes = by_utf8 (cases_Bool (is_utf8 bytes))
  where
    by_first : IsUtf8 bytes → (x : Token × List ℕ) → root_at bytes ≡ Some x → SomeOrNone (Root x.0 x.1) → SomeOrNone (λ root. SpellsText root bytes)
    by_first u x e (inl f) = inl (f.0, root_means f.0 bytes x u e f.1)
    by_first u x e (inr f) = inr (λ r s. let y = root_seen r bytes s in f r (subst (λ (z : Token × List ℕ). Root z.0 z.1 r) (same_Some (y.token, y.rest) x (sym y.read ∙ e)) y.means))

    by_root : IsUtf8 bytes → (o : Option (Token × List ℕ)) → root_at bytes ≡ o → SomeOrNone (λ root. SpellsText root bytes)
    by_root u None e = inr (λ r s. let y = root_seen r bytes s in none-some (y.token, y.rest) (sym e ∙ y.read))
    by_root u (Some x) e = by_first u x e (told_first x.0 x.1)

    by_utf8 : (is_utf8 bytes ≡ true) ⊎ (is_utf8 bytes ≡ false) → SomeOrNone (λ root. SpellsText root bytes)
    by_utf8 (inl u) = by_root (IsUtf8-from_is_utf8 bytes u) (root_at bytes) refl
    by_utf8 (inr f) = inr (λ r s. false≢true (sym f ∙ is_utf8-from_IsUtf8 bytes s.is_utf8))

pub one_project : (bytes : List ℕ) (p q : Project) → SaysProject bytes p → SaysProject bytes q → p ≡ q
one_project bytes p q is also = same_Some p q (sym is.meaning ∙ ap project_of (same_tree bytes is.root also.root is.text also.text) ∙ also.meaning)

-- what is too deep says no project
pub deep_says_none : (bytes : List ℕ) (p : Project) → IsTooDeep bytes → SaysProject bytes p → ⊥
deep_says_none bytes p d is =
    let levels : has_levels greatest_level d.root ≡ true = ap (has_levels greatest_level) (same_tree bytes d.root is.root d.text is.text) ∙ is.in_bounds in
    false≢true (sym (ap not levels) ∙ d.deeper)

-- whether bytes spell a tree that is too deep
pub deep_or_not : (bytes : List ℕ) → IsTooDeep bytes ⊎ (IsTooDeep bytes → ⊥)
deep_or_not bytes = by_tree (tree_or_not bytes)
  where
    by_levels : (root : Element) → SpellsText root bytes → (has_levels greatest_level root ≡ true) ⊎ (has_levels greatest_level root ≡ false) → IsTooDeep bytes ⊎ (IsTooDeep bytes → ⊥)
    by_levels root s (inr f) = inl (record { root = root; text = s; deeper = ap not f })
    by_levels root s (inl h) = inr (λ d. false≢true (sym (ap not (ap (has_levels greatest_level) (same_tree bytes d.root root d.text s) ∙ h)) ∙ d.deeper))

    by_tree : SomeOrNone (λ root. SpellsText root bytes) → IsTooDeep bytes ⊎ (IsTooDeep bytes → ⊥)
    by_tree (inl t) = by_levels t.0 t.1 (cases_Bool (has_levels greatest_level t.0))
    by_tree (inr none) = inr (λ d. none d.root d.text)

-- the bytes say a project, or they say none
pub says_or_not : (bytes : List ℕ) → SomeOrNone (λ p. SaysProject bytes p)
says_or_not bytes = by_tree (tree_or_not bytes)
  where
    by_meaning : (root : Element) → SpellsText root bytes → has_levels greatest_level root ≡ true → (o : Option Project) → project_of root ≡ o → SomeOrNone (λ p. SaysProject bytes p)
    by_meaning root s h (Some p) e = inl (p, record { root = root; text = s; in_bounds = h; meaning = e })
    by_meaning root s h None e = inr (λ p is. none-some p (sym e ∙ ap project_of (same_tree bytes root is.root s is.text) ∙ is.meaning))

    by_levels : (root : Element) → SpellsText root bytes → (has_levels greatest_level root ≡ true) ⊎ (has_levels greatest_level root ≡ false) → SomeOrNone (λ p. SaysProject bytes p)
    by_levels root s (inl h) = by_meaning root s h (project_of root) refl
    by_levels root s (inr f) = inr (λ p is. false≢true (sym f ∙ ap (has_levels greatest_level) (same_tree bytes root is.root s is.text) ∙ is.in_bounds))

    by_tree : SomeOrNone (λ root. SpellsText root bytes) → SomeOrNone (λ p. SaysProject bytes p)
    by_tree (inl t) = by_levels t.0 t.1 (cases_Bool (has_levels greatest_level t.0))
    by_tree (inr none) = inr (λ p is. none is.root is.text)

-- What can be told of a statement: that it holds, or that it does not.
use Rattle.std.proofs.Common.{◌≡◌, ℕ, zero, suc, ◌≤◌, ◌<◌, Bool, true, false, List, [], ◌∷◌, ◌++◌, refl, sym, ap, subst, ◌∙◌, ◌⊎◌, inl, inr, arith}
use Rattle.std.specs.List.{All, AllZip}
use Rattle.std.specs.Str.{is_utf8, IsUtf8}
use Rattle.std.proofs.lemmas.Bool.{false≢true, cases_Bool}
use Rattle.std.proofs.lemmas.Bool.Decides.{leb_tells, eqb_tells}
use Rattle.std.proofs.lemmas.List.Elements.{All-nil, All-cons, All-head, All-tail}
use Rattle.std.proofs.lemmas.Str.{IsUtf8-from_is_utf8, is_utf8-from_IsUtf8}

-- a statement holds, or does not
abbrev pub Decided : Type 0 → Type 0
Decided A = A ⊎ (A → ⊥)

-- something has a property, or nothing has
abbrev pub SomeOrNone : {A : Type 0} → (A → Type 0) → Type 0
SomeOrNone {A} P = ((x : A) × P x) ⊎ ((x : A) → P x → ⊥)

pub both : {A B : Type 0} → Decided A → Decided B → Decided (A × B)
both (inl a) (inl b) = inl (a, b)
both (inr never) b = inr (λ p. never p.0)
both (inl a) (inr never) = inr (λ p. never p.1)

pub either : {A : Type 0} {P Q : A → Type 0} → SomeOrNone P → SomeOrNone Q → SomeOrNone (λ x. P x ⊎ Q x)
either (inl p) q = inl (p.0, inl p.1)
either (inr never) (inl q) = inl (q.0, inr q.1)
either (inr never) (inr none) = inr (λ x h. elim h [ inl p ↦ never x p | inr q ↦ none x q ])

pub passes : (b : Bool) → Decided (b ≡ true)
passes true = inl refl
passes false = inr false≢true

pub fails : (b : Bool) → Decided (b ≡ false)
fails false = inl refl
fails true = inr (λ e. false≢true (sym e))

-- what does not pass fails
pub failing : (b : Bool) → (b ≡ true → ⊥) → b ≡ false
failing true never = absurd (never refl)
failing false never = refl

pub at_most : (m n : ℕ) → Decided (m ≤ n)
at_most m n = elim (leb_tells m n) as (λ _. Decided (m ≤ n)) [
  | inl h ↦ inl h.1
  | inr h ↦ inr (λ le. let less = h.1 in omega (arith, le, less))
]

pub below : (m n : ℕ) → Decided (m < n)
below m n = elim (leb_tells n m) as (λ _. Decided (m < n)) [
  | inl h ↦ inr (λ less. let le = h.1 in omega (arith, le, less))
  | inr h ↦ inl h.1
]

pub equal : (m n : ℕ) → Decided (m ≡ n)
equal m n = elim (eqb_tells m n) as (λ _. Decided (m ≡ n)) [
  | inl h ↦ inl h.1
  | inr h ↦ inr h.1
]

pub is_text : (bytes : List ℕ) → Decided (IsUtf8 bytes)
is_text bytes = by (is_utf8 bytes) refl
  where
    by : (b : Bool) → is_utf8 bytes ≡ b → Decided (IsUtf8 bytes)
    by true e = inl (IsUtf8-from_is_utf8 bytes e)
    by false e = inr (λ is. false≢true (sym e ∙ is_utf8-from_IsUtf8 bytes is))

pub empty : {A : Type 0} (xs : List A) → Decided (xs ≡ [])
empty [] = inl refl
empty (x ∷ xs) = inr (λ e. cc e)

pub same_list : {A : Type 0} → ((x y : A) → Decided (x ≡ y)) → (xs ys : List A) → Decided (xs ≡ ys)
same_list told [] [] = inl refl
same_list told [] (y ∷ ys) = inr (λ e. cc e)
same_list told (x ∷ xs) [] = inr (λ e. cc e)
same_list {A} told (x ∷ xs) (y ∷ ys) = join (told x y) (same_list told xs ys)
  where
    join : Decided (x ≡ y) → Decided (xs ≡ ys) → Decided (x ∷ xs ≡ y ∷ ys)
    join (inl e) (inl f) = inl (cc (e, f))
    join (inr never) more = inr (λ e. let first : x ≡ y = cc e in never first)
    join (inl e) (inr never) = inr (λ e. let rest : xs ≡ ys = cc e in never rest)

pub same_text : (a b : List ℕ) → Decided (a ≡ b)
same_text a b = same_list equal a b

pub each : {A : Type 0} (P : A → Type 0) → ((x : A) → Decided (P x)) → (xs : List A) → Decided (All P xs)
each P told [] = inl (All-nil P)
each {A} P told (x ∷ xs) = join (told x) (each P told xs)
  where
    join : Decided (P x) → Decided (All P xs) → Decided (All P (x ∷ xs))
    join (inl h) (inl more) = inl (All-cons P x xs h more)
    join (inr never) more = inr (λ all. never (All-head P x xs all))
    join (inl h) (inr never) = inr (λ all. never (All-tail P x xs all))

-- each element of a list has its partner, or they have none
pub partners : {A B : Type 0} (R : A → B → Type 0) → ((x : A) → SomeOrNone (R x)) → (xs : List A) → SomeOrNone (AllZip R xs)
partners R told [] = inl ([], tt)
partners {A} {B} R told (x ∷ xs) = join (told x) (partners R told xs)
  where
    no_first : ((y : B) → R x y → ⊥) → (ys : List B) → AllZip R (x ∷ xs) ys → ⊥
    no_first never [] h = h
    no_first never (y ∷ ys) h = never y h.0

    no_rest : ((ys : List B) → AllZip R xs ys → ⊥) → (ys : List B) → AllZip R (x ∷ xs) ys → ⊥
    no_rest never [] h = h
    no_rest never (y ∷ ys) h = never ys h.1

    join : SomeOrNone (R x) → SomeOrNone (AllZip R xs) → SomeOrNone (AllZip R (x ∷ xs))
    join (inl h) (inl more) = inl (h.0 ∷ more.0, (h.1, more.1))
    join (inr never) more = inr (no_first never)
    join (inl h) (inr never) = inr (no_rest never)

-- the first element that lacks a property, behind those that have it
pub record FirstLacking {A : Type 0} (P : A → Type 0) (xs : List A) : Type 0 where
  pub before : List A
  pub here : A
  pub after : List A
  pub parts : xs ≡ before ++ here ∷ after
  pub have : All P before
  pub lacks : P here → ⊥

-- all elements have the property, or a first one lacks it
pub all_or_first : {A : Type 0} (P : A → Type 0) → ((x : A) → Decided (P x)) → (xs : List A) → All P xs ⊎ FirstLacking P xs
all_or_first P told [] = inl (All-nil P)
all_or_first {A} P told (x ∷ xs) = join (told x) (all_or_first P told xs)
  where
    join : Decided (P x) → All P xs ⊎ FirstLacking P xs → All P (x ∷ xs) ⊎ FirstLacking P (x ∷ xs)
    join (inr never) more = inr (record { before = []; here = x; after = xs; parts = refl; have = All-nil P; lacks = never })
    join (inl h) (inl more) = inl (All-cons P x xs h more)
    join (inl h) (inr f) =
        inr (record { before = x ∷ f.before; here = f.here; after = f.after; parts = ap (λ (l : List A). x ∷ l) f.parts; have = All-cons P x f.before h f.have; lacks = f.lacks })

-- a number below a bound has a property, or none has
pub some_below : (P : ℕ → Type 0) → ((n : ℕ) → Decided (P n)) → (bound : ℕ) → ((n : ℕ) × (n < bound) × P n) ⊎ ((n : ℕ) → n < bound → P n → ⊥)
some_below P told zero = inr (λ n less h. absurd (omega (arith, less)))
some_below P told (suc bound) = join (told bound) (some_below P told bound)
  where
    join : Decided (P bound) → ((n : ℕ) × (n < bound) × P n) ⊎ ((n : ℕ) → n < bound → P n → ⊥) → ((n : ℕ) × (n < suc bound) × P n) ⊎ ((n : ℕ) → n < suc bound → P n → ⊥)
    join (inl h) more = inl (bound, omega arith, h)
    join (inr never) (inl (n, less, h)) = inl (n, omega (arith, less), h)
    join (inr never) (inr none) = inr (λ n less h. elim (equal n bound) [
      | inl e ↦ never (subst P e h)
      | inr ne ↦ elim (below n bound) [ inl l ↦ none n l h | inr nl ↦ between n less ne nl ]
    ])
      where
        between : (n : ℕ) → n < suc bound → (n ≡ bound → ⊥) → (n < bound → ⊥) → ⊥
        between n less ne nl = ne (elim (leb_tells bound n) as (λ _. n ≡ bound) [
          | inl h ↦ (let le = h.1 in omega (arith, le, less))
          | inr h ↦ absurd (nl h.1)
        ])

-- what holds of 0 holds of a number, or there is a last one before it up to which it holds
pub holds_or_ends : (P : ℕ → Type 0) → ((n : ℕ) → Decided (P n)) → P 0 → (bound : ℕ) → P bound ⊎ ((n : ℕ) × (n < bound) × P n × (P (suc n) → ⊥))
holds_or_ends P told start zero = inl start
holds_or_ends P told start (suc bound) = join (holds_or_ends P told start bound) (told (suc bound))
  where
    join : P bound ⊎ ((n : ℕ) × (n < bound) × P n × (P (suc n) → ⊥)) → Decided (P (suc bound)) → P (suc bound) ⊎ ((n : ℕ) × (n < suc bound) × P n × (P (suc n) → ⊥))
    join (inr (n, less, h, ends)) more = inr (n, omega (arith, less), h, ends)
    join (inl h) (inl more) = inl more
    join (inl h) (inr never) = inr (bound, omega arith, h, never)

-- The links of nodes in order chain exactly the nodes that touch.
use Rattle.std.proofs.Common.{◌≡◌, ℕ, suc, zero, ◌<◌, ◌⊎◌, Bool, true, false, ◌&&◌, List, [], ◌∷◌, length, get_or, refl, sym, ap, subst, ◌∙◌, arith, inl, inr}
use Rattle.std.specs.Prelude.{ℤ, ◌≤ℤ◌, ◌<ℤ◌, Contains, int_lt, int_le}
use Rattle.std.specs.Ordering.{int_eq}
use Rattle.std.proofs.lemmas.Bool.{cases_Bool, cases_order, cond-true, cond-false, and_from, and_parts, false≢true}
use Rattle.std.proofs.lemmas.Bool.Decides.{Decides-int_eq}
use Rattle.std.proofs.lemmas.Int.{ints}
use Rattle.std.proofs.lemmas.List.{get_or_default}
use Rattle.lg_nets.specs.declared.components.Link.{Link}
use Rattle.lg_nets.specs.declared.rows.Node.{Node}
use Rattle.lg_nets.specs.Links.{Chained}
use Rattle.lg_nets.specs.Rows.{goes_on, carried, link, links_from, links_of}
use Rattle.lg_nets.proofs.ChainLemmas.{Chained-same, Chained-link, Chained-trans, Chained-sym}
use Rattle.lg_nets.proofs.OrderLemmas.{Upto, InOrder, InOrder-tail, InOrder-first, InOrder-reach}

le_true : (a b : ℤ) → a ≤ℤ b → int_le a b ≡ true
le_true a b h = grind (arith, ints)

le_from : (a b : ℤ) → int_le a b ≡ true → a ≤ℤ b
le_from a b h = grind (arith, ints)

pub lt_from : (a b : ℤ) → int_lt a b ≡ true → a <ℤ b
lt_from a b h = grind (arith, ints)

pub ge_from : (a b : ℤ) → int_lt a b ≡ false → b ≤ℤ a
ge_from a b h = grind (arith, ints)

pub Contains-cases : (n : Node) (ns : List Node) (m : Node) → Contains (n ∷ ns) m → (n ≡ m) ⊎ Contains ns m
Contains-cases n ns m (zero, less, e) = inl e
Contains-cases n ns m (suc k, less, e) = inr (k, omega arith, e)

pub Contains-first : (n : Node) (ns : List Node) → Contains (n ∷ ns) n
Contains-first n ns = (0, omega arith, refl)

-- a node goes on where it lies in the row, within reach
goes_on_true : (last n : Node) → n.across ≡ last.across → n.along ≤ℤ last.reach → goes_on last n ≡ true
goes_on_true last n e h = and_from (int_eq n.across last.across) (int_le n.along last.reach) ((Decides-int_eq n.across last.across).1 e) (le_true n.along last.reach h)

goes_on_from : (last n : Node) → goes_on last n ≡ true → (n.across ≡ last.across) × (n.along ≤ℤ last.reach)
goes_on_from last n h =
    let parts = and_parts (int_eq n.across last.across) (int_le n.along last.reach) h in
    ((Decides-int_eq n.across last.across).0 parts.0, le_from n.along last.reach parts.1)

-- the carried reach is that of the node, or that of the row where it goes on and is greater
abbrev ReachCases : Node → Node → Type 0
ReachCases last n =
    ((goes_on last n ≡ true) × (n.reach <ℤ last.reach) × ((carried last n).reach ≡ last.reach))
    ⊎ (((carried last n).reach ≡ n.reach) × (goes_on last n ≡ true → last.reach ≤ℤ n.reach))

reach_cases : (last n : Node) → ReachCases last n
reach_cases last n = by_goes (goes_on last n) (int_lt n.reach last.reach) refl refl
  where
    by_goes : (b l : Bool) → goes_on last n ≡ b → int_lt n.reach last.reach ≡ l
        → ReachCases last n
    by_goes true true e f = inl (e, lt_from n.reach last.reach f, cond-true (goes_on last n && int_lt n.reach last.reach) last.reach n.reach (and_from (goes_on last n) (int_lt n.reach last.reach) e f))
    by_goes true false e f = inr (cond-false (goes_on last n && int_lt n.reach last.reach) last.reach n.reach (ap (λ b. b && int_lt n.reach last.reach) e ∙ f), λ _. ge_from n.reach last.reach f)
    by_goes false l e f = inr (cond-false (goes_on last n && int_lt n.reach last.reach) last.reach n.reach (ap (λ b. b && int_lt n.reach last.reach) e), λ t. absurd (false≢true (sym e ∙ t)))

no_less : (last n : Node) → n.reach ≤ℤ (carried last n).reach
no_less last n = by_case (reach_cases last n)
  where
    by_case : ReachCases last n → n.reach ≤ℤ (carried last n).reach
    by_case (inl h) = rw h.2 (let less = h.1 in omega (arith, ints))
    by_case (inr h) = rw h.0 (omega (arith, ints))

row_no_less : (last n : Node) → goes_on last n ≡ true → last.reach ≤ℤ (carried last n).reach
row_no_less last n goes = by_case (reach_cases last n)
  where
    by_case : ReachCases last n → last.reach ≤ℤ (carried last n).reach
    by_case (inl h) = rw h.2 (omega (arith, ints))
    by_case (inr h) = rw h.0 (h.1 goes)

links_true : (last n : Node) (ns : List Node) → goes_on last n ≡ true → links_from last (n ∷ ns) ≡ link last n ∷ links_from (carried last n) ns
links_true last n ns e = cond-true (goes_on last n) (link last n ∷ links_from (carried last n) ns) (links_from (carried last n) ns) e

links_false : (last n : Node) (ns : List Node) → goes_on last n ≡ false → links_from last (n ∷ ns) ≡ links_from (carried last n) ns
links_false last n ns e = cond-false (goes_on last n) (link last n ∷ links_from (carried last n) ns) (links_from (carried last n) ns) e

-- the links from here have those from the next node on
links_more : (last n : Node) (ns : List Node) (l : Link) → Contains (links_from (carried last n) ns) l → Contains (links_from last (n ∷ ns)) l
links_more last n ns l h = by_goes (cases_Bool (goes_on last n))
  where
    by_goes : (goes_on last n ≡ true) ⊎ (goes_on last n ≡ false) → Contains (links_from last (n ∷ ns)) l
    by_goes (inl e) = subst (λ (ls : List Link). Contains ls l) (sym (links_true last n ns e)) (suc h.0, omega (arith, h.1), h.2)
    by_goes (inr e) = subst (λ (ls : List Link). Contains ls l) (sym (links_false last n ns e)) h

links_first : (last n : Node) (ns : List Node) → goes_on last n ≡ true → Contains (links_from last (n ∷ ns)) (link last n)
links_first last n ns goes = subst (λ (ls : List Link). Contains ls (link last n)) (sym (links_true last n ns goes)) (0, omega arith, refl)

-- where the row of the last node reaches another node, links chain the two
reached : (links : List Link) (last : Node) (ns : List Node) (b : Node) → InOrder (last ∷ ns) → ((l : Link) → Contains (links_from last ns) l → Contains links l)
    → Contains ns b → b.across ≡ last.across → b.along ≤ℤ last.reach → Chained links last.place b.place
reached links last [] b o keep h same near = absurd (omega (arith, h.1))
reached links last (n ∷ ns) b o keep h same near = by_place (Contains-cases n ns b h) (reached links (carried last n) ns b)
  where
    place_first : Upto last n → (n ≡ b) ⊎ Upto n b → (n.across ≡ last.across) × (n.along ≤ℤ b.along)
    place_first (inl less) (inl e) = absurd (let f : n.across ≡ last.across = ap (λ (m : Node). m.across) e ∙ same in omega (arith, ints))
    place_first (inl less) (inr (inl more)) = absurd (omega (arith, ints))
    place_first (inl less) (inr (inr more)) = absurd (omega (arith, ints, more.0))
    place_first (inr e) (inl f) = (sym e.0, let g : n.along ≡ b.along = ap (λ (m : Node). m.along) f in omega (arith, ints))
    place_first (inr e) (inr (inl more)) = absurd (omega (arith, ints, e.0))
    place_first (inr e) (inr (inr more)) = (sym e.0, more.1)

    goes : (n ≡ b) ⊎ Upto n b → goes_on last n ≡ true
    goes there =
        let f = place_first (InOrder-first last (n ∷ ns) n o (Contains-first n ns)) there in
        goes_on_true last n f.0 (let g : n.along ≤ℤ b.along = f.1 in omega (arith, ints))

    first_link : goes_on last n ≡ true → Chained links last.place n.place
    first_link e = Chained-link links (link last n) (keep (link last n) (links_first last n ns e))

    by_place : (n ≡ b) ⊎ Contains ns b
        → (InOrder (carried last n ∷ ns) → ((l : Link) → Contains (links_from (carried last n) ns) l → Contains links l) → Contains ns b → b.across ≡ n.across → b.along ≤ℤ (carried last n).reach → Chained links n.place b.place)
        → Chained links last.place b.place
    by_place (inl e) more = subst (λ (m : Node). Chained links last.place m.place) e (first_link (goes (inl e)))
    by_place (inr h) more =
        let up = InOrder-first n ns b (InOrder-tail last (n ∷ ns) o) h in
        let g = goes (inr up) in
        let row = (goes_on_from last n g).0 in
        Chained-trans links last.place n.place b.place (first_link g)
        (more (InOrder-reach n (carried last n) ns refl refl (InOrder-tail last (n ∷ ns) o)) (λ l k. keep l (links_more last n ns l k)) h (same ∙ sym row)
        (let far = row_no_less last n g in omega (arith, ints)))

-- of two nodes of one row, links chain the first to the second where the first reaches it
later : (links : List Link) (last : Node) (ns : List Node) (i j : ℕ) (d : Node) → InOrder (last ∷ ns) → ((l : Link) → Contains (links_from last ns) l → Contains links l)
    → i < j → j < length ns → (get_or ns j d).across ≡ (get_or ns i d).across → (get_or ns j d).along ≤ℤ (get_or ns i d).reach
    → Chained links (get_or ns i d).place (get_or ns j d).place
later links last [] i j d o keep ij less same near = absurd (omega arith)
later links last (n ∷ ns) i zero d o keep ij less same near = absurd (omega arith)
later links last (n ∷ ns) zero (suc j) d o keep ij less same near =
    reached links (carried last n) ns (get_or ns j d) (InOrder-reach n (carried last n) ns refl refl (InOrder-tail last (n ∷ ns) o))
    (λ l k. keep l (links_more last n ns l k)) (j, omega arith, get_or_default ns j (get_or ns j d) d (omega arith)) same
    (let far = no_less last n in omega (arith, ints))
later links last (n ∷ ns) (suc i) (suc j) d o keep ij less same near =
    later links (carried last n) ns i j d (InOrder-reach n (carried last n) ns refl refl (InOrder-tail last (n ∷ ns) o))
    (λ l k. keep l (links_more last n ns l k)) (omega arith) (omega arith) same near

-- the same of all nodes
before : (ns : List Node) (i j : ℕ) (d : Node) → InOrder ns → i < j → j < length ns → (get_or ns j d).across ≡ (get_or ns i d).across
    → (get_or ns j d).along ≤ℤ (get_or ns i d).reach → Chained (links_of ns) (get_or ns i d).place (get_or ns j d).place
before [] i j d o ij less same near = absurd (omega arith)
before (n ∷ ns) i zero d o ij less same near = absurd (omega arith)
before (n ∷ ns) zero (suc j) d o ij less same near =
    reached (links_from n ns) n ns (get_or ns j d) o (λ l k. k) (j, omega arith, get_or_default ns j (get_or ns j d) d (omega arith)) same near
before (n ∷ ns) (suc i) (suc j) d o ij less same near =
    later (links_from n ns) n ns i j d o (λ l k. k) (omega arith) (omega arith) same near

-- the same at two nodes
before_at : (ns : List Node) (i j : ℕ) (a b : Node) → InOrder ns → get_or ns i a ≡ a → get_or ns j a ≡ b → i < j → j < length ns
    → b.across ≡ a.across → b.along ≤ℤ a.reach → Chained (links_of ns) a.place b.place
before_at ns i j a b o at_i at_j ij less same near =
    let P : Node → Node → Type 0 = λ m n. n.across ≡ m.across → n.along ≤ℤ m.reach → Chained (links_of ns) m.place n.place in
    let first : P (get_or ns i a) (get_or ns j a) = λ e h. before ns i j a o ij less e h in
    let second : P a (get_or ns j a) = subst (λ (m : Node). P m (get_or ns j a)) at_i first in
    let third : P a b = subst (P a) at_j second in
    third same near

-- links chain two nodes of one row where the one that is less far along reaches the other
pub meets : (ns : List Node) (a b : Node) → InOrder ns → Contains ns a → Contains ns b → b.across ≡ a.across → a.along ≤ℤ b.along
    → b.along ≤ℤ a.reach → b.along ≤ℤ b.reach → Chained (links_of ns) a.place b.place
meets ns a b o has_a has_b same le near far = by_order has_a.0 has_b.0 has_a.1 has_b.1 has_a.2 has_b.2 (cases_order has_a.0 has_b.0)
  where
    back : (i j : ℕ) → i < length ns → get_or ns i a ≡ a → get_or ns j b ≡ b → j < i → Upto b a → Chained (links_of ns) a.place b.place
    back i j less at_i at_j ji (inl up) = absurd (omega (arith, ints, same))
    back i j less at_i at_j ji (inr up) =
        Chained-sym (links_of ns) b.place a.place
        (before_at ns j i b a o at_j (get_or_default ns i b a less ∙ at_i) ji less (sym same) (let u : b.along ≤ℤ a.along = up.1 in omega (arith, ints)))

    up_to : (i j : ℕ) → i < length ns → get_or ns i a ≡ a → get_or ns j b ≡ b → j < i → Upto b a
    up_to i j less at_i at_j ji =
        subst (Upto b) (get_or_default ns i b a less ∙ at_i) (subst (λ (m : Node). Upto m (get_or ns i b)) at_j (o.upto j i b (omega arith) less))

    by_order : (i j : ℕ) → i < length ns → j < length ns → get_or ns i a ≡ a → get_or ns j b ≡ b → (i ≡ j) ⊎ ((i < j) ⊎ (j < i)) → Chained (links_of ns) a.place b.place
    by_order i j l k at_i at_j (inl e) =
        Chained-same (links_of ns) a.place b.place
        (ap (λ (m : Node). m.place) (sym at_i ∙ (ap (λ (k : ℕ). get_or ns k a) e ∙ (get_or_default ns j a b k ∙ at_j))))
    by_order i j l k at_i at_j (inr (inl ij)) = before_at ns i j a b o at_i (get_or_default ns j a b k ∙ at_j) ij k same near
    by_order i j l k at_i at_j (inr (inr ji)) = back i j l at_i at_j ji (up_to i j l at_i at_j ji)

-- ---- what a link says

-- the node has a node of its place, and a node of its row that reaches as far and is no further along
record Carries (nodes : List Node) (last : Node) : Type 0 where
  own : Node
  has_own : Contains nodes own
  one_place : own.place ≡ last.place
  one_row : own.across ≡ last.across
  one_point : own.along ≡ last.along
  far : Node
  has_far : Contains nodes far
  far_row : far.across ≡ last.across
  far_along : far.along ≤ℤ last.along
  far_reach : far.reach ≡ last.reach

-- the two nodes of a link lie in the row of a third, that is no further along than they are and reaches both
pub record Spanned (nodes : List Node) (l : Link) : Type 0 where
  pub one : Node
  pub has_one : Contains nodes one
  pub one_place : one.place ≡ l.from
  pub other : Node
  pub has_other : Contains nodes other
  pub other_place : other.place ≡ l.to
  pub far : Node
  pub has_far : Contains nodes far
  pub one_row : one.across ≡ far.across
  pub other_row : other.across ≡ far.across
  pub after : far.along ≤ℤ one.along
  pub between : one.along ≤ℤ other.along
  pub within : other.along ≤ℤ far.reach

Carries-itself : (nodes : List Node) (n : Node) → Contains nodes n → Carries nodes n
Carries-itself nodes n h = record {
  own = n;
  has_own = h;
  one_place = refl;
  one_row = refl;
  one_point = refl;
  far = n;
  has_far = h;
  far_row = refl;
  far_along = omega (arith, ints);
  far_reach = refl;
}

Carries-next : (nodes : List Node) (last n : Node) → Contains nodes n → Carries nodes last → Upto last n → Carries nodes (carried last n)
Carries-next nodes last n h c up = by_reach (reach_cases last n)
  where
    along : (goes_on last n ≡ true) → Upto last n → last.along ≤ℤ n.along
    along g (inl less) = absurd (let e = (goes_on_from last n g).0 in omega (arith, ints))
    along g (inr u) = u.1

    by_reach : ReachCases last n → Carries nodes (carried last n)
    by_reach (inl r) = record {
      own = n;
      has_own = h;
      one_place = refl;
      one_row = refl;
      one_point = refl;
      far = c.far;
      has_far = c.has_far;
      far_row = c.far_row ∙ sym (goes_on_from last n r.0).0;
      far_along = (let a = along r.0 up in let b = c.far_along in omega (arith, ints));
      far_reach = c.far_reach ∙ sym r.2;
    }
    by_reach (inr r) = record {
      own = n;
      has_own = h;
      one_place = refl;
      one_row = refl;
      one_point = refl;
      far = n;
      has_far = h;
      far_row = refl;
      far_along = omega (arith, ints);
      far_reach = sym r.0;
    }

Spanned-link : (nodes : List Node) (last n : Node) → Contains nodes n → Carries nodes last → Upto last n → goes_on last n ≡ true → Spanned nodes (link last n)
Spanned-link nodes last n h c up g =
    let row : n.across ≡ last.across = (goes_on_from last n g).0 in
    let near : n.along ≤ℤ last.reach = (goes_on_from last n g).1 in
    record {
      one = c.own;
      has_one = c.has_own;
      one_place = c.one_place;
      other = n;
      has_other = h;
      other_place = refl;
      far = c.far;
      has_far = c.has_far;
      one_row = c.one_row ∙ sym c.far_row;
      other_row = row ∙ sym c.far_row;
      after = rw c.one_point c.far_along;
      between = rw c.one_point (along up);
      within = rw c.far_reach near;
    }
  where
    along : Upto last n → last.along ≤ℤ n.along
    along (inl less) = absurd (let e = (goes_on_from last n g).0 in omega (arith, ints))
    along (inr u) = u.1

-- a link from here is that of a step, or one from the next node on
abbrev LinkCases : Node → Node → List Node → Link → Type 0
LinkCases last n ns l = ((goes_on last n ≡ true) × (link last n ≡ l)) ⊎ Contains (links_from (carried last n) ns) l

links_cases : (last n : Node) (ns : List Node) (l : Link) → Contains (links_from last (n ∷ ns)) l
    → LinkCases last n ns l
links_cases last n ns l h = by_goes (cases_Bool (goes_on last n))
  where
    by_link : goes_on last n ≡ true → (k : ℕ) → k < length (link last n ∷ links_from (carried last n) ns) → get_or (link last n ∷ links_from (carried last n) ns) k l ≡ l
        → LinkCases last n ns l
    by_link g zero less e = inl (g, e)
    by_link g (suc k) less e = inr (k, omega arith, e)

    by_goes : (goes_on last n ≡ true) ⊎ (goes_on last n ≡ false) → LinkCases last n ns l
    by_goes (inl g) = let k = subst (λ (ls : List Link). Contains ls l) (links_true last n ns g) h in by_link g k.0 k.1 k.2
    by_goes (inr g) = inr (subst (λ (ls : List Link). Contains ls l) (links_false last n ns g) h)

Spanned-from : (nodes : List Node) (last : Node) (ns : List Node) → ((m : Node) → Contains ns m → Contains nodes m) → InOrder (last ∷ ns) → Carries nodes last
    → (l : Link) → Contains (links_from last ns) l → Spanned nodes l
Spanned-from nodes last [] keep o c l h = absurd (omega (arith, h.1))
Spanned-from nodes last (n ∷ ns) keep o c l h =
    let has = keep n (Contains-first n ns) in
    let up = InOrder-first last (n ∷ ns) n o (Contains-first n ns) in
    by_case has up (links_cases last n ns l h)
    (Spanned-from nodes (carried last n) ns (λ m q. keep m (suc q.0, omega (arith, q.1), q.2))
    (InOrder-reach n (carried last n) ns refl refl (InOrder-tail last (n ∷ ns) o)) (Carries-next nodes last n has c up) l)
  where
    by_case : Contains nodes n → Upto last n → LinkCases last n ns l
        → (Contains (links_from (carried last n) ns) l → Spanned nodes l) → Spanned nodes l
    by_case has up (inl g) rest = subst (Spanned nodes) g.1 (Spanned-link nodes last n has c up g.0)
    by_case has up (inr k) rest = rest k

pub Spanned-all : (ns : List Node) → InOrder ns → (l : Link) → Contains (links_of ns) l → Spanned ns l
Spanned-all [] o l h = absurd (omega (arith, h.1))
Spanned-all (n ∷ ns) o l h =
    Spanned-from (n ∷ ns) n ns (λ m k. (suc k.0, omega (arith, k.1), k.2)) o (Carries-itself (n ∷ ns) n (Contains-first n ns)) l h

-- Chains of links: joined, turned round and kept where links are added.
use Rattle.std.proofs.Common.{◌≡◌, ℕ, ◌⊎◌, List, [], ◌∷◌, refl, sym, subst, inl, inr}
use Rattle.std.specs.Prelude.{Contains}
use Rattle.lg_nets.specs.declared.components.Link.{Link}
use Rattle.lg_nets.specs.Links.{Linked, Chain, Chained}

pub Chained-refl : (links : List Link) (i : ℕ) → Chained links i i
Chained-refl links i = ([], refl)

pub Chained-same : (links : List Link) (i j : ℕ) → i ≡ j → Chained links i j
Chained-same links i j e = ([], e)

pub Chained-step : (links : List Link) (i j k : ℕ) → Linked links i j → Chained links j k → Chained links i k
Chained-step links i j k l c = (j ∷ c.0, (l, c.1))

pub Chained-link : (links : List Link) (link : Link) → Contains links link → Chained links link.from link.to
Chained-link links link h = (link.to ∷ [], ((link, h, inl (refl, refl)), refl))

pub Chained-trans : (links : List Link) (i j k : ℕ) → Chained links i j → Chained links j k → Chained links i k
Chained-trans links i j k a b = go i a.0 a.1
  where
    go : (i : ℕ) (over : List ℕ) → Chain links i over j → Chained links i k
    go i [] e = subst (λ (n : ℕ). Chained links n k) (sym e) b
    go i (next ∷ more) h = Chained-step links i next k h.0 (go next more h.1)

Linked-sym : (links : List Link) (i j : ℕ) → Linked links i j → Linked links j i
Linked-sym links i j l = (l.0, l.1, turned l.2)
  where
    turned : {link : Link} → ((link.from ≡ i) × (link.to ≡ j)) ⊎ ((link.from ≡ j) × (link.to ≡ i)) → ((link.from ≡ j) × (link.to ≡ i)) ⊎ ((link.from ≡ i) × (link.to ≡ j))
    turned (inl h) = inr h
    turned (inr h) = inl h

pub Chained-sym : (links : List Link) (i j : ℕ) → Chained links i j → Chained links j i
Chained-sym links i j c = go i c.0 c.1
  where
    go : (i : ℕ) (over : List ℕ) → Chain links i over j → Chained links j i
    go i [] e = ([], sym e)
    go i (next ∷ more) h = Chained-trans links j next i (go next more h.1) (Chained-step links next i i (Linked-sym links i next h.0) (Chained-refl links i))

pub Chained-more : (links more : List Link) (i j : ℕ) → ((link : Link) → Contains links link → Contains more link) → Chained links i j → Chained more i j
Chained-more links more i j keep c = (c.0, go i c.0 c.1)
  where
    go : (i : ℕ) (over : List ℕ) → Chain links i over j → Chain more i over j
    go i [] e = e
    go i (next ∷ rest) h = ((h.0.0, keep h.0.0 h.0.1, h.0.2), go next rest h.1)

-- what holds at one end and goes along each link, either way, holds at the other end
pub Chained-keeps : (links : List Link) (P : ℕ → Type 0) → ((i j : ℕ) → Linked links i j → P i → P j) → (i j : ℕ) → Chained links i j → P i → P j
Chained-keeps links P step i j c = go i c.0 c.1
  where
    go : (i : ℕ) (over : List ℕ) → Chain links i over j → P i → P j
    go i [] e p = subst P e p
    go i (next ∷ more) h p = go next more h.1 (step i next h.0 p)

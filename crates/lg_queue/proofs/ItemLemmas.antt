-- The order of items.
use Rattle.std.proofs.Common.{◌≡◌, ℕ, ◌<◌, eqb, ltb, sym, ap, ◌∙◌, arith, ◌⊎◌, inl, inr}
use Rattle.std.specs.Prelude.{◌&&◌, ◌||◌}
use Rattle.std.specs.Bool.{Decides}
use Rattle.std.proofs.lemmas.Bool.{cases_order, false_from_ne_true, both_ways}
use Rattle.std.proofs.lemmas.Bool.Decides.{Decides-or, Decides-and, Decides-ltb, Decides-eqb}
use Rattle.lg_queue.specs.Order.{IsOrder}
use Rattle.lg_queue.specs.Pending.{Item, is_before}

-- one item stands before another
abbrev pub Precedes : Item → Item → Type 0
Precedes a b = (a.0 < b.0) ⊎ ((a.0 ≡ b.0) × ((a.1 < b.1) ⊎ ((a.1 ≡ b.1) × (a.2 < b.2))))

pub Decides-is_before : (a b : Item) → Decides (is_before a b) (Precedes a b)
Decides-is_before a b =
    Decides-or (ltb a.0 b.0) (eqb a.0 b.0 && (ltb a.1 b.1 || (eqb a.1 b.1 && ltb a.2 b.2))) (Decides-ltb a.0 b.0)
    (Decides-and (eqb a.0 b.0) (ltb a.1 b.1 || (eqb a.1 b.1 && ltb a.2 b.2)) (Decides-eqb a.0 b.0)
    (Decides-or (ltb a.1 b.1) (eqb a.1 b.1 && ltb a.2 b.2) (Decides-ltb a.1 b.1)
    (Decides-and (eqb a.1 b.1) (ltb a.2 b.2) (Decides-eqb a.1 b.1) (Decides-ltb a.2 b.2))))

precedes_none : (a : Item) → Precedes a a → ⊥
precedes_none a h = grind arith

precedes_on : (a b c : Item) → Precedes a b → Precedes b c → Precedes a c
precedes_on a b c (inl h) (inl k) = inl (omega arith)
precedes_on a b c (inl h) (inr k) = inl (omega (arith, h, k.0))
precedes_on a b c (inr h) (inl k) = inl (omega (arith, h.0, k))
precedes_on a b c (inr h) (inr k) = inr (
  h.0 ∙ k.0,
  elim h.1 [
    | inl p ↦ elim k.1 [ inl q ↦ inl (omega (arith, p, q)) | inr q ↦ inl (omega (arith, p, q.0)) ]
    | inr p ↦ elim k.1 [ inl q ↦ inl (omega (arith, p.0, q)) | inr q ↦ inr (p.0 ∙ q.0, omega (arith, p.1, q.1)) ]
  ],
)

abbrev item : ℕ → ℕ → ℕ → Item
item instant part output = (instant, part, output)

same_item : (a b : Item) → a.0 ≡ b.0 → a.1 ≡ b.1 → a.2 ≡ b.2 → a ≡ b
same_item a b p q r = ap (λ n. item n a.1 a.2) p ∙ ap (λ n. item b.0 n a.2) q ∙ ap (item b.0 b.1) r

precedes_cases : (a b : Item) → (a ≡ b) ⊎ (Precedes a b ⊎ Precedes b a)
precedes_cases a b = elim (cases_order a.0 b.0) [
  | inr h ↦ inr (elim h [ inl k ↦ inl (inl k) | inr k ↦ inr (inl k) ])
  | inl p ↦ elim (cases_order a.1 b.1) [
    | inr h ↦ inr (elim h [ inl k ↦ inl (inr (p, inl k)) | inr k ↦ inr (inr (sym p, inl k)) ])
    | inl q ↦ elim (cases_order a.2 b.2) [
      | inr h ↦ inr (elim h [ inl k ↦ inl (inr (p, inr (q, k))) | inr k ↦ inr (inr (sym p, inr (sym q, k))) ])
      | inl r ↦ inl (same_item a b p q r)
    ]
  ]
]

pub order_of_items : IsOrder is_before
order_of_items = record {
  irreflexive = λ a. false_from_ne_true (is_before a a) (λ t. precedes_none a ((Decides-is_before a a).0 t));
  transitive = λ a b c h k. (Decides-is_before a c).1 (precedes_on a b c ((Decides-is_before a b).0 h) ((Decides-is_before b c).0 k));
  total = λ a b h k. elim (precedes_cases a b) [
    | inl e ↦ e
    | inr p ↦ elim p [
      | inl q ↦ absurd (both_ways (is_before a b) h ((Decides-is_before a b).1 q))
      | inr q ↦ absurd (both_ways (is_before b a) k ((Decides-is_before b a).1 q))
    ]
  ];
}

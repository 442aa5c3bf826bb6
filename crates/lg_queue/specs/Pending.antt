-- Pending changes of outputs, in the order in which a simulator takes them.
-- Source: IEEE 1364-2005, 11.4 (the event queue of a simulation, by time).
use Rattle.std.specs.Prelude.{◌≡◌, ℕ, ◌+◌, ◌≤◌, ◌==◌, nat_lt, Bool, ◌&&◌, ◌||◌, List, [], ◌∷◌, Option, Some, None}
use Rattle.lg_queue.specs.Order.{StandsIn, IsRising, with_value}
use Rattle.lg_queue.specs.Numbering.{IsOutput}

-- the instant, the part, and which of its outputs
abbrev pub Item : Type 0
Item = ℕ × ℕ × ℕ

-- by instants, then by parts, then by outputs
abbrev pub is_before : Item → Item → Bool
is_before a b = nat_lt a.0 b.0 || (a.0 == b.0 && (nat_lt a.1 b.1 || (a.1 == b.1 && nat_lt a.2 b.2)))

-- what is pending, for parts of which each has so many outputs: no item is later than the span after the current instant
pub record Pending : Type 0 where
  pub current : ℕ
  pub span : ℕ
  pub outputs : List ℕ
  pub items : List Item

-- what holds of everything that is pending
pub record IsPending (p : Pending) : Type 0 where
  pub rising : IsRising is_before p.items
  pub in_span : (item : Item) → StandsIn item p.items → (p.current ≤ item.0) × (item.0 ≤ p.current + p.span)
  pub outputs : (item : Item) → StandsIn item p.items → IsOutput p.outputs item.1 item.2

-- the same, with an item in its place; an item that is there stays once
abbrev pub with_item : Item → Pending → Pending
with_item item p = record { current = p.current; span = p.span; outputs = p.outputs; items = with_value is_before item p.items }

-- the instant of the first item
abbrev pub first_instant : List Item → Option ℕ
first_instant [] = None
first_instant (item ∷ items) = Some item.0

-- the first item is taken, and its instant becomes the current one; where there is none, all stays
abbrev pub IsTaken : Pending → Option Item → Pending → Type 0
IsTaken old None new = (old.items ≡ []) × (new ≡ old)
IsTaken old (Some item) new = (old.items ≡ item ∷ new.items) × (new.current ≡ item.0)

-- nothing is pending
abbrev pub nothing_at : ℕ → Pending → Pending
nothing_at instant p = record { current = instant; span = p.span; outputs = p.outputs; items = [] }

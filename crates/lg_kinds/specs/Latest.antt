-- Where the last records for things stand.
use Rattle.std.specs.Prelude.{ℕ, suc, ◌≡◌, List, [], ◌∷◌, ◌++◌, length, Option, Some, None, is_some, option_map, if◌then◌else◌, slice_get}
use Rattle.std.specs.BTreeMap.{get_by_text}
use Rattle.std.specs.Option.{option_or, option_and_then}
use Rattle.lg_kinds.specs.declared.kind.Kind.{Kind}
use Rattle.lg_kinds.specs.declared.latest.Latest.{Latest}
use Rattle.lg_kinds.specs.declared.record.Record.{Record}
use Rattle.lg_kinds.specs.Index.{found}
use Rattle.lg_kinds.specs.PortTable.{default_in, place_in, circuit_in, delay_in}
use Rattle.lg_kinds.specs.Table.{name_of}

-- where the last element stands that gives something
abbrev pub last_place : {A B : Type 0} → (A → Option B) → List A → Option ℕ
last_place f [] = None
last_place f (x ∷ xs) = option_or (option_map (λ i. suc i) (last_place f xs)) (if is_some (f x) then Some 0 else None)

-- the record at a place
abbrev pub record_at : List Record → Option ℕ → Option Record
record_at records place = option_and_then (slice_get records) place

-- for each port, delay, default and pin it is known where its last record stands
pub record KnowsLatest (records : List Record) (latest : Latest) : Type 0 where
  pub ports : (kind : Kind) (name : List ℕ) → found latest.ports (name_of kind) name ≡ last_place (place_in kind name) records
  pub delays : (kind : Kind) → get_by_text latest.delays (name_of kind) ≡ last_place (delay_in kind) records
  pub defaults : (kind : Kind) (name : List ℕ) → found latest.defaults (name_of kind) name ≡ last_place (default_in kind name) records
  pub pins : (sheet pin : List ℕ) → found latest.pins sheet pin ≡ last_place (circuit_in sheet pin) records

-- what is known of some records goes on to one more behind them, which stands at this place
abbrev pub Learns : ℕ → Record → Latest → Latest → Type 0
Learns place one old new =
    (records : List Record) → length records ≡ place → KnowsLatest records old → KnowsLatest (records ++ one ∷ []) new

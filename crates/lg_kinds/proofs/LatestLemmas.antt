-- One record more, and where the last records stand then.
use Rattle.std.proofs.Common.{◌≡◌, ◌∙◌, sym, ap, subst, ℕ, suc, ◌+◌, ◌<◌, ◌≤◌, ℤ, Bool, true, false, cond, ◌&&◌, ◌||◌, List, [], ◌∷◌, ◌++◌, length, get_or, take, length-take-le, Option, Some, None, is_some, refl, arith}
use Rattle.std.specs.Prelude.{option_map, if◌then◌else◌}
use Rattle.std.specs.BTreeMap.{get_by_text}
use Rattle.std.specs.List.{cons_option}
use Rattle.std.specs.Map.{update}
use Rattle.std.specs.Option.{option_or}
use Rattle.std.specs.Set.{is_member}
use Rattle.std.specs.Str.{bytes_eq}
use Rattle.std.specs.declared.num.NonZeroU8.{NonZeroU8}
use Rattle.std.proofs.lemmas.List.{take_more, take_all}
use Rattle.lg_attrs.proofs.Distinct.{swapped}
use Rattle.lg_kinds.specs.declared.kind.Kind.{Kind}
use Rattle.lg_kinds.specs.declared.latest.Latest.{Latest}
use Rattle.lg_kinds.specs.declared.record.Record.{Record}
use Rattle.lg_kinds.specs.declared.record.Record.TheVariants.{Port, Delay, Default, Circuit}
use Rattle.lg_kinds.specs.Index.{Puts}
use Rattle.lg_kinds.specs.Latest.{KnowsLatest, Learns, last_place}
use Rattle.lg_kinds.specs.PortTable.{circuit_in, default_in, delay_in, pins_of, place_in}
use Rattle.lg_kinds.specs.Table.{name_of}
use Rattle.lg_kinds.proofs.LastLemmas.{last_place-put, last_place-kept, some_or, some_next}

-- a record for a port
pub learns_port : (place : ℕ) (of : Kind) (port : List ℕ) (dx dy : ℤ) (old new : Latest) → Puts (name_of of) port place old.ports new.ports → new.delays ≡ old.delays → new.defaults ≡ old.defaults → new.pins ≡ old.pins → Learns place (Port of port dx dy) old new
learns_port place of port dx dy old new put delays defaults pins records long knows =
    let one = Port of port dx dy in
    rw (delays, defaults, pins) (record {
      ports = λ kind name. last_place-put (place_in kind name) records one place (bytes_eq (name_of of) (name_of kind) && bytes_eq port name) (dx, dy) _ _ refl long (knows.ports kind name) (put (name_of kind) name);
      delays = λ kind. last_place-kept (delay_in kind) records one _ refl (knows.delays kind);
      defaults = λ kind name. last_place-kept (default_in kind name) records one _ refl (knows.defaults kind name);
      pins = λ sheet pin. last_place-kept (circuit_in sheet pin) records one _ refl (knows.pins sheet pin);
    })

-- a record for a delay
pub learns_delay : (place : ℕ) (of : Kind) (instants : NonZeroU8) (old new : Latest) → new.ports ≡ old.ports → ((q : List ℕ) → get_by_text new.delays q ≡ update bytes_eq (get_by_text old.delays) (name_of of) (Some place) q) → new.defaults ≡ old.defaults → new.pins ≡ old.pins → Learns place (Delay of instants) old new
learns_delay place of instants old new ports put defaults pins records long knows =
    let one = Delay of instants in
    rw (ports, defaults, pins) (record {
      ports = λ kind name. last_place-kept (place_in kind name) records one _ refl (knows.ports kind name);
      delays = λ kind. last_place-put (delay_in kind) records one place (bytes_eq (name_of of) (name_of kind)) instants _ _ refl long (knows.delays kind) (put (name_of kind));
      defaults = λ kind name. last_place-kept (default_in kind name) records one _ refl (knows.defaults kind name);
      pins = λ sheet pin. last_place-kept (circuit_in sheet pin) records one _ refl (knows.pins sheet pin);
    })

-- a record for a default
pub learns_default : (place : ℕ) (of : Kind) (attribute value : List ℕ) (old new : Latest) → new.ports ≡ old.ports → new.delays ≡ old.delays → Puts (name_of of) attribute place old.defaults new.defaults → new.pins ≡ old.pins → Learns place (Default of attribute value) old new
learns_default place of attribute value old new ports delays put pins records long knows =
    let one = Default of attribute value in
    rw (ports, delays, pins) (record {
      ports = λ kind name. last_place-kept (place_in kind name) records one _ refl (knows.ports kind name);
      delays = λ kind. last_place-kept (delay_in kind) records one _ refl (knows.delays kind);
      defaults = λ kind name. last_place-put (default_in kind name) records one place (bytes_eq (name_of of) (name_of kind) && bytes_eq attribute name) value _ _ refl long (knows.defaults kind name) (put (name_of kind) name);
      pins = λ sheet pin. last_place-kept (circuit_in sheet pin) records one _ refl (knows.pins sheet pin);
    })

-- a record for a pin
pub learns_pin : (place : ℕ) (of name : List ℕ) (dx dy : ℤ) (old new : Latest) → new.ports ≡ old.ports → new.delays ≡ old.delays → new.defaults ≡ old.defaults → Puts of name place old.pins new.pins → Learns place (Circuit of name dx dy) old new
learns_pin place of name dx dy old new ports delays defaults put records long knows =
    let one = Circuit of name dx dy in
    rw (ports, delays, defaults) (record {
      ports = λ kind port. last_place-kept (place_in kind port) records one _ refl (knows.ports kind port);
      delays = λ kind. last_place-kept (delay_in kind) records one _ refl (knows.delays kind);
      defaults = λ kind attribute. last_place-kept (default_in kind attribute) records one _ refl (knows.defaults kind attribute);
      pins = λ sheet pin. last_place-put (circuit_in sheet pin) records one place (bytes_eq of sheet && bytes_eq name pin) (dx, dy) _ _ refl long (knows.pins sheet pin) (put sheet pin);
    })

passed : (o : Option ℕ) → is_some (option_or (option_map (λ i. suc i) o) None) ≡ is_some o
passed None = refl
passed (Some i) = refl

plain : (b : Bool) → b ≡ (b || false)
plain true = refl
plain false = refl

-- a pin is among those that records move where a record for it stands somewhere
pub pin_there : (records : List Record) (sheet pin : List ℕ) → is_member bytes_eq (pins_of records sheet) pin ≡ is_some (last_place (circuit_in sheet pin) records)
pin_there [] sheet pin = refl
pin_there (Circuit of name dx dy ∷ records) sheet pin =
    by_test (bytes_eq of sheet) (bytes_eq name pin) (swapped pin name) (pin_there records sheet pin ∙ sym (some_next later))
    ∙ sym (some_or (option_map (λ i. suc i) later) (if is_some (circuit_in sheet pin (Circuit of name dx dy)) then Some 0 else None))
  where
    later : Option ℕ
    later = last_place (circuit_in sheet pin) records

    by_test : (here same : Bool) → bytes_eq pin name ≡ same → is_member bytes_eq (pins_of records sheet) pin ≡ is_some (option_map (λ i. suc i) later)
        → is_member bytes_eq (cons_option (cond here (Some name) None) (pins_of records sheet)) pin ≡ (is_some (option_map (λ i. suc i) later) || is_some {T = ℕ} (if is_some {T = ℤ × ℤ} (if here && same then Some (dx, dy) else None) then Some 0 else None))
    by_test true true e h = ap (λ (b : Bool). b || is_member bytes_eq (pins_of records sheet) pin) e ∙ sym (always (is_some (option_map (λ i. suc i) later)))
      where
        always : (b : Bool) → (b || true) ≡ true
        always true = refl
        always false = refl
    by_test true false e h = ap (λ (b : Bool). b || is_member bytes_eq (pins_of records sheet) pin) e ∙ h ∙ plain (is_some (option_map (λ i. suc i) later))
    by_test false same e h = h ∙ plain (is_some (option_map (λ i. suc i) later))
pin_there (Port of port dx dy ∷ records) sheet pin = pin_there records sheet pin ∙ sym (passed (last_place (circuit_in sheet pin) records))
pin_there (Delay of instants ∷ records) sheet pin = pin_there records sheet pin ∙ sym (passed (last_place (circuit_in sheet pin) records))
pin_there (Default of attribute value ∷ records) sheet pin = pin_there records sheet pin ∙ sym (passed (last_place (circuit_in sheet pin) records))

-- one record more of those that there are
pub knows_more : (records : List Record) (place : ℕ) (one : Record) (old new : Latest) → place < length records → one ≡ get_or records place one → KnowsLatest (take place records) old → Learns place one old new → KnowsLatest (take (place + 1) records) new
knows_more records place one old new inside is knows learns =
    let grown : take (place + 1) records ≡ take place records ++ one ∷ [] = take_more records place one inside ∙ ap (λ (r : Record). take place records ++ r ∷ []) (sym is) in
    let short : place ≤ length records = omega arith in
    subst (λ (rs : List Record). KnowsLatest rs new) (sym grown) (learns (take place records) (length-take-le place records short) knows)

-- no record is left
pub knows_all : (records : List Record) (place : ℕ) (latest : Latest) → length records ≤ place → KnowsLatest (take place records) latest → KnowsLatest records latest
knows_all records place latest end knows = subst (λ (rs : List Record). KnowsLatest rs latest) (take_all place records end) knows

-- One record more, by its form.
use Rattle.std.proofs.Common.{◌≡◌, ◌∙◌, subst, refl, ℕ, List, Some}
use Rattle.std.specs.Prelude.{string_bytes}
use Rattle.std.specs.BTreeMap.{get_by_text}
use Rattle.std.specs.Map.{update}
use Rattle.std.specs.Str.{bytes_eq}
use Rattle.std.proofs.lemmas.Map.Text.{btree_map_updates_text}
use Rattle.std.proofs.lemmas.Result.{IfOk-weaker}
use Rattle.lg_kinds.specs.declared.latest.Latest.{Latest}
use Rattle.lg_kinds.specs.Index.{Puts}
use Rattle.lg_kinds.specs.Latest.{Learns}
use Rattle.lg_kinds.specs.Table.{name_of}
use Rattle.lg_kinds.proofs.LatestLemmas.{learns_port, learns_delay, learns_default, learns_pin}
use Rattle.lg_kinds.proofs.latest.Latest.add.Goals as goal

pub returns-in-Port : goal.returns-in-Port
returns-in-Port c =
    let old = c.args.self.now in
    let new : Latest = record { ports = c.put.new.self; delays = old.delays; defaults = old.defaults; pins = old.pins } in
    rw c.in-Port.is (IfOk-weaker c.put.result (λ _. Puts c.kind_name.result.now c.as_str.result.now c.args.place old.ports c.put.new.self) (λ _. Learns c.args.place _ old new)
    (λ x p. learns_port c.args.place c.in-Port.kind c.in-Port.port c.in-Port.dx c.in-Port.dy old new (rw (c.kind_name.ensures, c.as_str.ensures) at p) refl refl refl) c.put.ensures)

pub returns-in_ok-insert-in-Delay : goal.returns-in_ok-insert-in-Delay
returns-in_ok-insert-in-Delay c =
    let old = c.args.self.now in
    let new : Latest = record { ports = old.ports; delays = c.insert.new.self; defaults = old.defaults; pins = old.pins } in
    let name = name_of c.in-Delay.kind in
    let put : (q : List ℕ) → get_by_text c.insert.new.self q ≡ update bytes_eq (get_by_text old.delays) name (Some c.args.place) q = λ q. subst (λ (k : List ℕ). get_by_text c.insert.new.self q ≡ update bytes_eq (get_by_text old.delays) k (Some c.args.place) q) (c.in_ok-name-in-Delay.ensures.ok ∙ c.kind_name-in-Delay.ensures) (btree_map_updates_text (string_bytes c.in_ok-name-in-Delay.name) old.delays c.insert.new.self (Some c.args.place) c.in_ok-insert-in-Delay.ensures.updates q) in
    rw c.in-Delay.is (learns_delay c.args.place c.in-Delay.kind c.in-Delay.instants old new refl put refl refl)

pub returns-in-Default : goal.returns-in-Default
returns-in-Default c =
    let old = c.args.self.now in
    let new : Latest = record { ports = old.ports; delays = old.delays; defaults = c.put-in-Default.new.self; pins = old.pins } in
    rw c.in-Default.is (IfOk-weaker c.put-in-Default.result (λ _. Puts c.kind_name-in-Default.result.now c.as_str-in-Default.result.now c.args.place old.defaults c.put-in-Default.new.self) (λ _. Learns c.args.place _ old new)
    (λ x p. learns_default c.args.place c.in-Default.kind c.in-Default.attribute c.in-Default.value old new refl refl (rw (c.kind_name-in-Default.ensures, c.as_str-in-Default.ensures) at p) refl) c.put-in-Default.ensures)

pub returns-in-Circuit : goal.returns-in-Circuit
returns-in-Circuit c =
    let old = c.args.self.now in
    let new : Latest = record { ports = old.ports; delays = old.delays; defaults = old.defaults; pins = c.put-in-Circuit.new.self } in
    rw c.in-Circuit.is (IfOk-weaker c.put-in-Circuit.result (λ _. Puts c.as_str-in-Circuit.result.now c.as_str-in-Circuit-2.result.now c.args.place old.pins c.put-in-Circuit.new.self) (λ _. Learns c.args.place _ old new)
    (λ x p. learns_pin c.args.place c.in-Circuit.sheet c.in-Circuit.pin c.in-Circuit.dx c.in-Circuit.dy old new refl refl refl (rw (c.as_str-in-Circuit.ensures, c.as_str-in-Circuit-2.ensures) at p)) c.put-in-Circuit.ensures)

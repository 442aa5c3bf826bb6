use Rattle.std.proofs.Common.{rules, ◌≡◌, ◌≢◌, ◌+◌, ◌-◌, ◌^◌, min, ◌∙◌, sym, refl, inr, []}
use Rattle.csv.specs.Reading.{Reached, strip_bom}
use Rattle.csv.specs.Records.{fields_of}
use Rattle.lg_kinds.specs.declared.record.Record.{Record}
use Rattle.lg_kinds.specs.TableFile.{HasForm, heading}
use Rattle.lg_kinds.proofs.TableLemmas.{unread, header-bad, row-bad, header-more, row-more}
use Rattle.lg_kinds.proofs.NearLemmas.{said_near}
use Rattle.lg_kinds.proofs.table_file.read_port_table.Goals as goal
use Rattle.lg_kinds.proofs.table_file.read_port_table.Goals.{then-number-eq0+else-not-is_header, else-number-eq0+in_ok-record+in-Some-2+in_ok-push-in-Some-2}

pub loop-row-init : goal.loop-row-init
unfolding Reached
loop-row-init c =
    let fr = c.from_reader-reader.ensures in
    let e = c.has_headers.ensures in
    let g = c.flexible.ensures in
    let start = c.into_iter-row-iterator.ensures.into_iter_gives ∙ refl in
    let rdr = c.into_records-row-items.ensures.rdr in
    let left = c.into_records-row-items.ensures.left in
    rw (start, rdr, c.new-records.ensures) (record {
      trims = rw (g, e) at fr.trim ∙ c.new.ensures.trim;
      ready = inr (inr (rw (g, e) at fr.has_headers, fr.headers));
      some = left;
      config = rw (g, e) at fr.config ∙ c.new.ensures.config;
      ahead = strip_bom c.args.bytes.now;
      source = fr.source;
      rows = [];
      reached = (sym fr.state, refl);
      numbered = refl;
      said = refl;
    })

pub returns-in-Err-clause-refused : goal.returns-in-Err-clause-refused
returns-in-Err-clause-refused c =
    let i = c.loop-row.invariant in
    let s = rw (c.in-Some.is, c.in-Err.is) at ((c.next.ensures.steps i.some i.trims).0 i.ready) in
    rw c.fault_of.ensures (unread c.args.bytes.now c.loop-row.number c.loop-row.records c.loop-row.row-iterator.rdr c.next.new.self.rdr c.loop-row.row-iterator.left c.in-Err.error.kind i s)

pub returns-then-not-is_header-clause-refused : goal.returns-then-not-is_header-clause-refused
returns-then-not-is_header-clause-refused c =
    let i = c.loop-row.invariant in
    let s = rw (c.in-Some.is, c.in-Ok.is) at ((c.next.ensures.steps i.some i.trims).0 i.ready) in
    let none : c.loop-row.number ≡ 0 = search rules in
    let other : fields_of c.in-Ok.row ≢ heading = search rules in
    header-bad c.args.bytes.now c.loop-row.number c.loop-row.records c.loop-row.row-iterator.rdr c.next.new.self.rdr c.loop-row.row-iterator.left (fields_of c.in-Ok.row) i s.0 none other

pub returns-in-None-2-clause-refused : goal.returns-in-None-2-clause-refused
returns-in-None-2-clause-refused c =
    let i = c.loop-row.invariant in
    let s = rw (c.in-Some.is, c.in-Ok.is) at ((c.next.ensures.steps i.some i.trims).0 i.ready) in
    let some : c.loop-row.number ≢ 0 = search rules in
    let none : (said : Record) → HasForm (fields_of c.in-Ok.row) said → ⊥ = rw c.in-None-2.is at c.in_ok-record.ensures in
    row-bad c.args.bytes.now c.loop-row.number c.loop-row.records c.loop-row.row-iterator.rdr c.next.new.self.rdr c.loop-row.row-iterator.left (fields_of c.in-Ok.row) i s.0 some none

pub loop-row-preserved : goal.loop-row-preserved
loop-row-preserved c =
    let i = c.loop-row.invariant in
    let s = rw (c.in-Some.is, c.in-Ok.is) at ((c.next.ensures.steps i.some i.trims).0 i.ready) in
    let counted : c.saturating_add-number.result ≡ min (c.loop-row.number + 1) (2 ^ 32 - 1) = search rules in
    elim c.if-number-eq0.branch [
      | then-number-eq0+else-not-is_header w ↦
          let none : c.loop-row.number ≡ 0 = search (rules, w.if-number-eq0.true) in
          let e : fields_of c.in-Ok.row ≡ heading = search (rules, w.is_header.ensures, w.if-not-is_header.false) in
          rw w.records-is (header-more c.args.bytes.now c.loop-row.number c.loop-row.records c.loop-row.row-iterator.rdr c.next.new.self.rdr c.loop-row.row-iterator.left (fields_of c.in-Ok.row) c.saturating_add-number.result c.next.new.self.left i s.0 s.1 s.3 counted none e)
      | else-number-eq0+in_ok-record+in-Some-2+in_ok-push-in-Some-2 w ↦
          let some : c.loop-row.number ≢ 0 = search (rules, w.if-number-eq0.false) in
          let form : HasForm (fields_of c.in-Ok.row) w.in-Some-2.record = rw w.in-Some-2.is at w.in_ok-record.ensures in
          rw (w.records-is, w.in_ok-push-in-Some-2.ensures.ok) (row-more c.args.bytes.now c.loop-row.number c.loop-row.records c.loop-row.row-iterator.rdr c.next.new.self.rdr c.loop-row.row-iterator.left (fields_of c.in-Ok.row) c.saturating_add-number.result w.in-Some-2.record c.next.new.self.left i s.0 s.1 s.3 counted some s.2 form)
    ]

pub of_records-requires : goal.of_records-requires
of_records-requires c = said_near c.loop-row.invariant.rows c.loop-row.records c.loop-row.invariant.said

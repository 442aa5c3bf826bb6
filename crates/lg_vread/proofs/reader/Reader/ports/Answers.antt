use Rattle.std.proofs.Common.{◌≡◌, true, false, List, [], ◌∷◌, ◌++◌, Some, sym, ap, ◌∙◌, subst}
use Rattle.std.specs.Prelude.{codes}
use Rattle.std.proofs.lemmas.Bool.{cond-true, cond-false}
use Rattle.std.proofs.lemmas.Result.{err_from_is_err_and}
use Rattle.lg_vtree.specs.declared.module.Port.{Port}
use Rattle.lg_vread.specs.declared.fault.ReadFault.{ReadFault}
use Rattle.lg_vread.specs.declared.fault.ReadFault.TheVariants.{NotSubset, Memory}
use Rattle.lg_vtree.specs.Grammar.{Token}
use Rattle.lg_vread.specs.Lexing.{left}
use Rattle.lg_vread.specs.Reading.{is_at, tail, port_at, other_port_at, ports_at, all_at, Fails, ◌>>=◌}
use Rattle.lg_vread.proofs.Steps.{bind_at}
use Rattle.lg_vread.proofs.Many.{behind_all, from_here, one_more, no_more, fails, after_comma}
use Rattle.lg_vread.proofs.Shorter.{other_port_shorter}
use Rattle.lg_vread.proofs.reader.Reader.ports.Goals as goal

-- ports where no `)` comes
some_ports : (ts : List Token) → is_at (codes ")") ts ≡ false → ports_at ts ≡ (port_at ts >>= λ first. all_at (is_at (codes ",")) other_port_at first.1 >>= λ more. Some (first.0 ∷ more.0, more.1))
unfolding ports_at
some_ports ts e = cond-false (is_at (codes ")") ts) (Some ([], ts)) (port_at ts >>= λ first. all_at (is_at (codes ",")) other_port_at first.1 >>= λ more. Some (first.0 ∷ more.0, more.1)) e

-- one port is read
first_port : (ts : List Token) (first : Port) (rest : List Token) → is_at (codes ")") ts ≡ false → port_at ts ≡ Some (first, rest) → ports_at ts ≡ behind_all (first ∷ []) (all_at (is_at (codes ",")) other_port_at rest)
first_port ts first rest opened e =
    some_ports ts opened ∙ bind_at (port_at ts) (λ first. all_at (is_at (codes ",")) other_port_at first.1 >>= λ more. Some (first.0 ∷ more.0, more.1)) (first, rest) e

-- the first port is not there, or there is no memory for it
no_first : (ts : List Token) (fault : ReadFault) → is_at (codes ")") ts ≡ false → Fails fault (port_at ts) → Fails fault (ports_at ts)
no_first ts Memory opened e = tt
no_first ts NotSubset opened e = some_ports ts opened ∙ ap (λ first. first >>= λ first. all_at (is_at (codes ",")) other_port_at first.1 >>= λ more. Some (first.0 ∷ more.0, more.1)) e

pub returns-then-is_at : goal.returns-then-is_at
unfolding ports_at
returns-then-is_at c =
    let ts = left c.args.self.now in
    cond-true (is_at (codes ")") ts) (Some ([], ts)) _ (sym c.is_at.ensures ∙ c.if-is_at.true) ∙ ap (λ ps. Some (ps, ts)) (sym c.new-ports.ensures)

pub returns-in_err-port : goal.returns-in_err-port
returns-in_err-port c =
    let p = err_from_is_err_and c.from_residual.result c.from_residual.ensures.1 in
    rw (p.1, p.2) (no_first (left c.args.self.now) c.in_err-port.field-0.0 (sym c.is_at.ensures ∙ c.if-is_at.false) c.in_err-port.ensures)

pub loop-alloc-init : goal.loop-alloc-init
loop-alloc-init c =
    let read = first_port (left c.args.self.now) c.in_ok-port.field-0 (left c.port.new.self) (sym c.is_at.ensures ∙ c.if-is_at.false) c.in_ok-port.ensures in
    let put = c.in_ok-push.ensures.ok ∙ ap (λ ps. ps ++ c.in_ok-port.field-0 ∷ []) c.new-ports.ensures in
    from_here (is_at (codes ",")) other_port_at _ c.push.new.self (left c.port.new.self) (read ∙ ap (λ ps. behind_all ps (all_at (is_at (codes ",")) other_port_at (left c.port.new.self))) (sym put))

pub returns-in_err-port-2 : goal.returns-in_err-port-2
unfolding other_port_at
returns-in_err-port-2 c =
    let l = c.loop-alloc in
    let here : is_at (codes ",") (left l.self) ≡ true = sym c.take.ensures.found ∙ c.loop-alloc-test.true in
    let behind : left c.take.new.self ≡ tail (left l.self) = c.take.ensures.rest ∙ cond-true c.take.result (tail (left l.self)) (left l.self) c.loop-alloc-test.true in
    let read = ap port_at behind ∙ sym (after_comma port_at (left l.self) here) in
    let p = err_from_is_err_and c.from_residual-in_err-port-2.result c.from_residual-in_err-port-2.ensures.1 in
    rw (p.1, p.2) (fails (is_at (codes ",")) other_port_at _ l.ports (left l.self) c.in_err-port-2.field-0.0 l.invariant here (subst (Fails c.in_err-port-2.field-0.0) read c.in_err-port-2.ensures))

pub loop-alloc-smaller : goal.loop-alloc-smaller
unfolding other_port_at
loop-alloc-smaller c =
    let l = c.loop-alloc in
    let here : is_at (codes ",") (left l.self) ≡ true = sym c.take.ensures.found ∙ c.loop-alloc-test.true in
    let behind : left c.take.new.self ≡ tail (left l.self) = c.take.ensures.rest ∙ cond-true c.take.result (tail (left l.self)) (left l.self) c.loop-alloc-test.true in
    other_port_shorter (left l.self) c.in_ok-port-2.field-0 (left c.port-in-loop-alloc.new.self) (after_comma port_at (left l.self) here ∙ ap port_at (sym behind) ∙ c.in_ok-port-2.ensures)

pub loop-alloc-preserved : goal.loop-alloc-preserved
unfolding other_port_at
loop-alloc-preserved c =
    let l = c.loop-alloc in
    let here : is_at (codes ",") (left l.self) ≡ true = sym c.take.ensures.found ∙ c.loop-alloc-test.true in
    let behind : left c.take.new.self ≡ tail (left l.self) = c.take.ensures.rest ∙ cond-true c.take.result (tail (left l.self)) (left l.self) c.loop-alloc-test.true in
    let read = after_comma port_at (left l.self) here ∙ ap port_at (sym behind) ∙ c.in_ok-port-2.ensures in
    let shorter = other_port_shorter (left l.self) c.in_ok-port-2.field-0 (left c.port-in-loop-alloc.new.self) read in
    one_more (is_at (codes ",")) other_port_at _ l.ports c.push-in-loop-alloc.new.self (left l.self) c.in_ok-port-2.field-0 (left c.port-in-loop-alloc.new.self) l.invariant here read shorter c.in_ok-push-2.ensures.ok

pub returns : goal.returns
returns c =
    let l = c.loop-alloc in
    let stop : is_at (codes ",") (left l.self) ≡ false = sym c.take.ensures.found ∙ c.loop-alloc-test.false in
    let same : left c.take.new.self ≡ left l.self = c.take.ensures.rest ∙ cond-false c.take.result (tail (left l.self)) (left l.self) c.loop-alloc-test.false in
    no_more (is_at (codes ",")) other_port_at _ l.ports (left l.self) l.invariant stop ∙ ap (λ ts. Some (l.ports, ts)) (sym same)

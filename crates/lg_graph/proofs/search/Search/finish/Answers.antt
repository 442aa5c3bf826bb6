-- A turn takes the last node off the path.
use Rattle.std.proofs.Common.{◌<◌, length, set, refl, sym, subst, ◌∙◌, ap, arith, ℕ}
use Rattle.lg_graph.specs.declared.search.Place.TheVariants.{Done}
use Rattle.lg_graph.proofs.FinishLemmas.{popped, node_within, finished_none, finished_next}
use Rattle.lg_graph.proofs.search.Search.finish.Goals as goal

pub loop-self-init : goal.loop-self-init
loop-self-init c = record { low = c.requires.within; high = omega arith; finished = finished_none c.args.self.now c.args.looped }

pub set-requires : goal.set-requires
set-requires c =
    let before = c.loop-self.invariant in
    let high = before.high in
    let p = popped c.args.self.now.path c.loop-self.self.path c.pop.new.self c.in-Some.node c.in-Some.ensures before.finished.path high in
    let more = p.0 in
    let places = before.finished.places in
    subst (λ (n : ℕ). n < length c.loop-self.self.places) (sym p.1) (let w = node_within c.args.self.now c.requires.on_path (length c.pop.new.self) (omega arith) in omega arith)

pub set-requires-in-Some : goal.set-requires-in-Some
set-requires-in-Some c =
    let before = c.loop-self.invariant in
    let high = before.high in
    let p = popped c.args.self.now.path c.loop-self.self.path c.pop.new.self c.in-Some.node c.in-Some.ensures before.finished.path high in
    let more = p.0 in
    let marks = before.finished.marks in
    let same = c.requires.marks in
    subst (λ (n : ℕ). n < length c.loop-self.self.cyclic) (sym p.1) (let w = node_within c.args.self.now c.requires.on_path (length c.pop.new.self) (omega arith) in omega arith)

pub loop-self-preserved : goal.loop-self-preserved
loop-self-preserved c =
    let before = c.loop-self.invariant in
    let high = before.high in
    let p = popped c.args.self.now.path c.loop-self.self.path c.pop.new.self c.in-Some.node c.in-Some.ensures before.finished.path high in
    let more = p.0 in
    let test = c.loop-self-test.true in
    let len = c.len.ensures in
    record {
      low = omega arith;
      high = omega arith;
      finished = finished_next c.args.self.now c.loop-self.self _ c.in-Some.node c.args.looped c.requires.on_path c.requires.marks high before.finished c.in-Some.ensures
          (c.set.ensures ∙ ap (λ (k : ℕ). set c.loop-self.self.places c.in-Some.node (Done k)) c.len-in-Some.ensures) refl refl c.in_ok-push-in-Some.ensures.ok c.set-in-Some.ensures;
    }

use Rattle.std.proofs.Common.{◌≡◌, true, Option, ℕ, IfOk, ◌&&◌, sym, subst, ◌∙◌}
use Rattle.lg_vrules.specs.Known.{KnowsThings}
use Rattle.lg_vrules.specs.Things.{things, sort_of, width_of}
use Rattle.lg_vrules.specs.Rules.{are_named, are_narrow, are_fitting, are_assigned_once, are_kept_once, are_divided_safely, are_addressed}
use Rattle.lg_vrules.proofs.NameLemmas.{both}
use Rattle.lg_vrules.proofs.NameIndexLemmas.{used_is, second, third_wide, later}
use Rattle.lg_vrules.proofs.names.NameIndex.first_broken.Goals as goal

pub returns-then-not-are_used : goal.returns-then-not-are_used
returns-then-not-are_used c =
    let m = c.args.«module».now in
    let index = c.args.self.now in
    let knows : KnowsThings (things m) index = c.requires in
    let named : are_named m ≡ true = both knows.differ (sym c.ports_are_named.ensures ∙ c.if-not-ports_are_named.false) in
    second (are_narrow m && are_fitting (sort_of m) (width_of m) m) (are_assigned_once (sort_of m) m) (are_kept_once (sort_of m) m) (are_divided_safely m) (are_addressed (sort_of m) (width_of m) m) named
    (used_is m index knows ∙ (sym c.are_used.ensures ∙ c.if-not-are_used.true))

pub returns-then-not-are_narrow : goal.returns-then-not-are_narrow
returns-then-not-are_narrow c =
    let m = c.args.«module».now in
    let index = c.args.self.now in
    let knows : KnowsThings (things m) index = c.requires in
    let named : are_named m ≡ true = both knows.differ (sym c.ports_are_named.ensures ∙ c.if-not-ports_are_named.false) in
    third_wide (are_fitting (sort_of m) (width_of m) m) (are_assigned_once (sort_of m) m) (are_kept_once (sort_of m) m) (are_divided_safely m) (are_addressed (sort_of m) (width_of m) m) named
    (used_is m index knows ∙ (sym c.are_used.ensures ∙ c.if-not-are_used.false)) (sym c.are_narrow.ensures ∙ c.if-not-are_narrow.true)

pub returns : goal.returns
returns c =
    let m = c.args.«module».now in
    let index = c.args.self.now in
    let knows : KnowsThings (things m) index = c.requires in
    let named : are_named m ≡ true = both knows.differ (sym c.ports_are_named.ensures ∙ c.if-not-ports_are_named.false) in
    let all = later (are_fitting (sort_of m) (width_of m) m) (are_assigned_once (sort_of m) m) (are_kept_once (sort_of m) m) (are_divided_safely m) (are_addressed (sort_of m) (width_of m) m) named
    (used_is m index knows ∙ (sym c.are_used.ensures ∙ c.if-not-are_used.false)) (sym c.are_narrow.ensures ∙ c.if-not-are_narrow.false) in
    subst (λ (due : Option ℕ). IfOk c.first_broken_of_last.result (λ broken. broken ≡ due)) all c.first_broken_of_last.ensures

use Rattle.std.proofs.Common.{sym, ◌∙◌}
use Rattle.lg_vrules.specs.Things.{sort_of, width_of}
use Rattle.lg_vrules.specs.Rules.{are_assigned_once, are_kept_once, are_divided_safely, are_addressed}
use Rattle.lg_vrules.proofs.NameIndexLemmas.{fits_is, assigned_is, kept_is, narrow_names, third, fourth, fifth, sixth, seventh, none_broken, addressed_is}
use Rattle.lg_vrules.proofs.names.NameIndex.first_broken_of_last.Goals as goal

pub are_fitting-requires : goal.are_fitting-requires
are_fitting-requires c = narrow_names c.args.«module».now c.args.self.now c.requires.index c.requires.narrow

pub returns-then-not-are_fitting : goal.returns-then-not-are_fitting
returns-then-not-are_fitting c =
    let m = c.args.«module».now in
    let index = c.args.self.now in
    third (are_assigned_once (sort_of m) m) (are_kept_once (sort_of m) m) (are_divided_safely m) (are_addressed (sort_of m) (width_of m) m) (fits_is m index c.requires.index ∙ (sym c.are_fitting.ensures ∙ c.if-not-are_fitting.true))

pub returns-then-not-branch : goal.returns-then-not-branch
returns-then-not-branch c =
    let m = c.args.«module».now in
    let index = c.args.self.now in
    fourth (are_kept_once (sort_of m) m) (are_divided_safely m) (are_addressed (sort_of m) (width_of m) m)
    (fits_is m index c.requires.index ∙ (sym c.are_fitting.ensures ∙ c.if-not-are_fitting.false))
    (assigned_is m index c.requires.index ∙ (sym c.in_ok-are_assigned_once.ensures ∙ c.if-not-branch.true))

pub returns-then-not-branch-2 : goal.returns-then-not-branch-2
returns-then-not-branch-2 c =
    let m = c.args.«module».now in
    let index = c.args.self.now in
    fifth (are_divided_safely m) (are_addressed (sort_of m) (width_of m) m) (fits_is m index c.requires.index ∙ (sym c.are_fitting.ensures ∙ c.if-not-are_fitting.false))
    (assigned_is m index c.requires.index ∙ (sym c.in_ok-are_assigned_once.ensures ∙ c.if-not-branch.false))
    (kept_is m index c.requires.index ∙ (sym c.in_ok-are_kept_once.ensures ∙ c.if-not-branch-2.true))

pub returns-then-not-are_divided_safely : goal.returns-then-not-are_divided_safely
returns-then-not-are_divided_safely c =
    let m = c.args.«module».now in
    let index = c.args.self.now in
    sixth (are_addressed (sort_of m) (width_of m) m) (fits_is m index c.requires.index ∙ (sym c.are_fitting.ensures ∙ c.if-not-are_fitting.false))
    (assigned_is m index c.requires.index ∙ (sym c.in_ok-are_assigned_once.ensures ∙ c.if-not-branch.false))
    (kept_is m index c.requires.index ∙ (sym c.in_ok-are_kept_once.ensures ∙ c.if-not-branch-2.false))
    (sym c.are_divided_safely.ensures ∙ c.if-not-are_divided_safely.true)

pub are_addressed-requires : goal.are_addressed-requires
are_addressed-requires c = narrow_names c.args.«module».now c.args.self.now c.requires.index c.requires.narrow

pub returns-then-not-are_addressed : goal.returns-then-not-are_addressed
returns-then-not-are_addressed c =
    let m = c.args.«module».now in
    let index = c.args.self.now in
    seventh
    (fits_is m index c.requires.index ∙ (sym c.are_fitting.ensures ∙ c.if-not-are_fitting.false))
    (assigned_is m index c.requires.index ∙ (sym c.in_ok-are_assigned_once.ensures ∙ c.if-not-branch.false))
    (kept_is m index c.requires.index ∙ (sym c.in_ok-are_kept_once.ensures ∙ c.if-not-branch-2.false))
    (sym c.are_divided_safely.ensures ∙ c.if-not-are_divided_safely.false)
    (addressed_is m index c.requires.index ∙ (sym c.are_addressed.ensures ∙ c.if-not-are_addressed.true))

pub returns : goal.returns
returns c =
    let m = c.args.«module».now in
    let index = c.args.self.now in
    none_broken
    (fits_is m index c.requires.index ∙ (sym c.are_fitting.ensures ∙ c.if-not-are_fitting.false))
    (assigned_is m index c.requires.index ∙ (sym c.in_ok-are_assigned_once.ensures ∙ c.if-not-branch.false))
    (kept_is m index c.requires.index ∙ (sym c.in_ok-are_kept_once.ensures ∙ c.if-not-branch-2.false))
    (sym c.are_divided_safely.ensures ∙ c.if-not-are_divided_safely.false)
    (addressed_is m index c.requires.index ∙ (sym c.are_addressed.ensures ∙ c.if-not-are_addressed.false))

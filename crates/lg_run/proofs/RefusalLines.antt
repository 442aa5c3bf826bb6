-- The texts of a line, one after another, are the line.
use Rattle.std.proofs.Common.{◌≡◌, ℕ, List, [], ◌++◌, codes, decimal, refl, sym, ap, ◌∙◌, append_assoc}
use Rattle.lg_run.specs.declared.stop.Unmet.{Unmet}
use Rattle.lg_run.specs.declared.stop.Unmet.TheVariants.{ManyDrivers, Undriven, Cycle}
use Rattle.lg_run.specs.Lines.{unmet_text}

abbrev start : List ℕ
start = codes "lg: not accepted: "

three : (a b c d : List ℕ) → a ++ b ++ c ++ d ≡ a ++ (b ++ (c ++ d))
three a b c d = append_assoc (a ++ b) c d ∙ append_assoc a b (c ++ d)

pub many_drivers_line : (condition : Unmet) (net : ℕ) (first second n a b : List ℕ) → condition ≡ ManyDrivers net first second → n ≡ decimal net → a ≡ first → b ≡ second
    → start ++ (codes "ManyDrivers " ++ (n ++ (codes " " ++ (a ++ (codes " " ++ (b ++ (codes "\n" ++ []))))))) ≡ start ++ unmet_text condition ++ codes "\n"
many_drivers_line condition net first second n a b e f g h =
    rw (e, f, g, h) (ap (λ (l : List ℕ). start ++ (codes "ManyDrivers " ++ l)) (sym (
    three (decimal net ++ codes " " ++ first) (codes " ") second (codes "\n")
    ∙ three (decimal net) (codes " ") first (codes " " ++ (second ++ codes "\n")))))

pub undriven_line : (condition : Unmet) (part port a b : List ℕ) → condition ≡ Undriven part port → a ≡ part → b ≡ port
    → start ++ (codes "Undriven " ++ (a ++ (codes " " ++ (b ++ (codes "\n" ++ []))))) ≡ start ++ unmet_text condition ++ codes "\n"
undriven_line condition part port a b e f g =
    rw (e, f, g) (ap (λ (l : List ℕ). start ++ (codes "Undriven " ++ l)) (sym (three part (codes " ") port (codes "\n"))))

pub cycle_line : (condition : Unmet) (part a : List ℕ) → condition ≡ Cycle part → a ≡ part
    → start ++ (codes "Cycle " ++ (a ++ (codes "\n" ++ []))) ≡ start ++ unmet_text condition ++ codes "\n"
cycle_line condition part a e f = rw (e, f) refl

-- One thing is due for words and contents.
use Rattle.std.proofs.Common.{◌≡◌, ℕ, ◌^◌, ◌<◌, ◌≤◌, Bool, true, false, List, [], ◌∷◌, length, Option, Some, None, refl, sym, ap, subst, ◌∙◌, arith, inl, inr, ◌⊎◌}
use Rattle.std.specs.Prelude.{◌≢◌, nat_lt, MatchBool, All}
use Rattle.std.specs.List.{list_all, zip}
use Rattle.std.proofs.lemmas.Bool.{false≢true, ltb-false}
use Rattle.lg_circ.specs.declared.project.Sheet.{Sheet}
use Rattle.lg_circ.specs.declared.project.Project.{Project}
use Rattle.lg_circ.specs.declared.read.TheConstants.{GREATEST_LENGTH}
use Rattle.lg_circ.specs.Project.{SaysProject, IsTooDeep}
use Rattle.lg_circ.specs.Straight.{is_straight}
use Rattle.lg_circ.proofs.Decided.{says_or_not, deep_or_not, one_project, deep_says_none}
use Rattle.lg_circ.proofs.Few.{IsFew, project_few}
use Rattle.lg_netlist.specs.declared.acceptance.NotAccepted.{NotAccepted as Refused}
use Rattle.lg_netlist.specs.declared.netlist.Netlist.{Netlist}
use Rattle.lg_netlist.specs.Acceptance.{IsAccepted, IsRefused}
use Rattle.lg_netlist.proofs.Judged.{judged}
use Rattle.lg_netlist.proofs.OneRefusal.{one_refusal, accepted_not_refused}
use Rattle.lg_flatten.specs.declared.role.Role.{Role}
use Rattle.lg_flatten.specs.Uses.{roles_of}
use Rattle.lg_flatten.proofs.OneNetlist.{one_netlist}
use Rattle.lg_flatten.proofs.SomeNetlist.{netlist_exists}
use Rattle.lg_export.specs.Layout.{module_of}
use Rattle.lg_vtree.specs.declared.module.Module.{Module}
use Rattle.lg_vtree.specs.Printed.{module_text}
use Rattle.lg_vmeaning.specs.Valid.{IsValid}
use Rattle.lg_vectors.specs.declared.fault.VectorFault.{VectorFault}
use Rattle.lg_vectors.specs.declared.fault.VectorFault.TheVariants as vector
use Rattle.lg_vrows.specs.declared.fault.ModuleFault.{ModuleFault}
use Rattle.lg_vrows.specs.declared.fault.ModuleFault.TheVariants as module_fault
use Rattle.lg_vrows.specs.declared.fault.RowsFault.{RowsFault}
use Rattle.lg_vrows.specs.declared.fault.RowsFault.TheVariants as rows_fault
use Rattle.lg_vrows.specs.Due.{IsValidText, IsModuleFault, IsRowsText, IsRowsFault}
use Rattle.lg_vrows.proofs.Judged.{module_or_fault, rows_or_fault}
use Rattle.lg_vrows.proofs.OneModule.{one_valid, no_fault as no_module_fault, one_fault as one_module_fault}
use Rattle.lg_vrows.proofs.OneText.{one_text, no_fault as no_rows_fault, one_fault as one_rows_fault}
use Rattle.lg_run.specs.declared.status.Status.{Status}
use Rattle.lg_run.specs.declared.status.Status.TheVariants.{Done}
use Rattle.lg_run.specs.declared.stop.Refusal.TheVariants.{Missing, TooLong, TooDeep, NotProject, NotBuilt}
use Rattle.lg_run.specs.declared.stop.Stop.{Stop}
use Rattle.lg_run.specs.declared.stop.Stop.TheVariants.{Usage, Input}
use Rattle.lg_run.specs.declared.vrun.TheConstants.{MODULE_LENGTH, ROWS_LENGTH}
use Rattle.lg_run.specs.Contents.{Held}
use Rattle.lg_run.specs.Stops.{IsDeserved, not_accepted_stop, module_stop, vector_stop, rows_stop}
use Rattle.lg_run.specs.Due.{Due, Writes, Stops, IsExportText, IsRefusedText, IsNoModule, Deep, NoProject, Unbuilt, Unaccepted, IsModuleDue, IsExportDue, IsOutputsDue, IsRowsDue, IsValidDue, OnModule, NoModule, IsVrunDue, IsCommandDue, IsDueFor, IsDue}
use Rattle.lg_run.specs.OneSheet.{IsBuilt, opens_with}
use Rattle.lg_run.specs.Words.{Command, Export, Vrun, command_of}
use Rattle.lg_run.proofs.OneSheetLemmas.{head_is, one_built}

-- the project has a circuit that is built, or none
abbrev BuiltOrNot : Project → Type 0
BuiltOrNot project = ((n : Netlist) × IsBuilt project n) ⊎ ((n : Netlist) → IsBuilt project n → ⊥)

-- with one sheet of known roles, its wires decide
by_straight : (project : Project) (sheet : Sheet) (roles : List Role) → length sheet.comps < 2 ^ 32 → project.sheets ≡ sheet ∷ [] → roles_of project.libs sheet.comps ≡ Some roles
    → opens_with project sheet ≡ true → (b : Bool) → list_all is_straight sheet.wires ≡ b → BuiltOrNot project
by_straight project sheet roles few one known opens true s =
    let found = netlist_exists sheet roles few in
    inl (found.0, record { sheet = sheet; roles = roles; only_sheet = one; opens = opens; roles_are = known; straight = s; netlist = found.1 })
by_straight project sheet roles few one known opens false s =
    inr (λ n b. false≢true (sym s ∙ (ap (λ (x : Sheet). list_all is_straight x.wires) (head_is sheet b.sheet (sym one ∙ b.only_sheet)) ∙ b.straight)))

by_roles : (project : Project) (sheet : Sheet) → opens_with project sheet ≡ true → length sheet.comps < 2 ^ 32 → project.sheets ≡ sheet ∷ [] → (o : Option (List Role)) → roles_of project.libs sheet.comps ≡ o → BuiltOrNot project
by_roles project sheet opens few one (Some roles) k = by_straight project sheet roles few one k opens (list_all is_straight sheet.wires) refl
by_roles project sheet opens few one None k =
    inr (λ n b. let e : None ≡ Some b.roles = sym k ∙ (ap (λ (x : Sheet). roles_of project.libs x.comps) (head_is sheet b.sheet (sym one ∙ b.only_sheet)) ∙ b.roles_are) in absurd cc)

by_opening : (project : Project) (sheet : Sheet) → length sheet.comps < 2 ^ 32 → project.sheets ≡ sheet ∷ [] → (b : Bool) → opens_with project sheet ≡ b → BuiltOrNot project
by_opening project sheet few one true o = by_roles project sheet o few one (roles_of project.libs sheet.comps) refl
by_opening project sheet few one false o =
    inr (λ n b. false≢true (sym o ∙ (ap (opens_with project) (head_is sheet b.sheet (sym one ∙ b.only_sheet)) ∙ b.opens)))

by_sheets : (project : Project) (sheets : List Sheet) → project.sheets ≡ sheets → ((sheet : Sheet) → sheets ≡ sheet ∷ [] → length sheet.comps < 2 ^ 32) → BuiltOrNot project
by_sheets project [] e few = inr (λ n b. let f : [] ≡ b.sheet ∷ [] = sym e ∙ b.only_sheet in absurd (omega (arith, ap length f)))
by_sheets project (sheet ∷ []) e few = by_opening project sheet (few sheet refl) e (opens_with project sheet) refl
by_sheets project (sheet ∷ other ∷ more) e few = inr (λ n b. let f : sheet ∷ other ∷ more ≡ b.sheet ∷ [] = sym e ∙ b.only_sheet in absurd (omega (arith, ap length f)))

-- bytes have the text of a module, or there is a stop that says why not
abbrev TextOrNot : List ℕ → Type 0
TextOrNot bytes = ((text : List ℕ) × IsExportText bytes text) ⊎ ((stop : Stop) × IsNoModule bytes stop)

of_netlist : (bytes : List ℕ) (project : Project) (n : Netlist) → SaysProject bytes project → IsBuilt project n → IsAccepted n ⊎ ((fault : Refused) × IsRefused n fault) → TextOrNot bytes
of_netlist bytes project n says built (inl accepted) =
    inl (module_text (module_of n), record { project = project; netlist = n; says = says; built = built; accepted = accepted; printed = refl })
of_netlist bytes project n says built (inr (fault, refused)) =
    inr (not_accepted_stop fault, Unaccepted fault (record { project = project; netlist = n; says = says; built = built; refused = refused }) refl)

of_project : (bytes : List ℕ) (project : Project) → SaysProject bytes project → BuiltOrNot project → TextOrNot bytes
of_project bytes project says (inl (n, built)) = of_netlist bytes project n says built (judged n)
of_project bytes project says (inr none) = inr (Input NotBuilt, Unbuilt project says none refl)

text_or_not : (bytes : List ℕ) → length bytes ≤ GREATEST_LENGTH → TextOrNot bytes
text_or_not bytes within = by (says_or_not bytes)
  where
    deep : ((project : Project) → SaysProject bytes project → ⊥) → IsTooDeep bytes ⊎ (IsTooDeep bytes → ⊥) → TextOrNot bytes
    deep none (inl d) = inr (Input TooDeep, Deep d refl)
    deep none (inr d) = inr (Input NotProject, NoProject (record { not_deep = d; says_none = none }) refl)

    by : ((project : Project) × SaysProject bytes project) ⊎ ((project : Project) → SaysProject bytes project → ⊥) → TextOrNot bytes
    by (inr none) = deep none (deep_or_not bytes)
    by (inl (project, says)) =
        of_project bytes project says (by_sheets project project.sheets refl (λ sheet e.
        let few = subst (λ (sheets : List Sheet). All (IsFew (length bytes)) sheets) e (project_few bytes project says) 0 sheet (omega arith) in
        omega (arith, few, within)))

-- the bytes have one netlist
same_netlist : (bytes : List ℕ) (p q : Project) (n m : Netlist) → SaysProject bytes p → SaysProject bytes q → IsBuilt p n → IsBuilt q m → m ≡ n
same_netlist bytes p q n m says_p says_q b c =
    let same : q ≡ p = one_project bytes q p says_q says_p in
    one_built p b.sheet b.roles n b.only_sheet b.roles_are (λ other h. one_netlist b.sheet (zip b.sheet.comps b.roles) n other b.netlist h)
    m (subst (λ (r : Project). IsBuilt r m) same c)

-- the text of the bytes' module is the only one
one_printed : (bytes text text' : List ℕ) → IsExportText bytes text → IsExportText bytes text' → text' ≡ text
one_printed bytes text text' t t' =
    let netlist : t'.netlist ≡ t.netlist = same_netlist bytes t.project t'.project t.netlist t'.netlist t.says t'.says t.built t'.built in
    t'.printed ∙ (ap (λ (n : Netlist). module_text (module_of n)) netlist ∙ sym t.printed)

-- the reason for which the bytes' netlist is refused is the only one
one_refused : (bytes : List ℕ) (a b : Refused) → IsRefusedText bytes a → IsRefusedText bytes b → a ≡ b
one_refused bytes a b h k =
    let netlist : k.netlist ≡ h.netlist = same_netlist bytes h.project k.project h.netlist k.netlist h.says k.says h.built k.built in
    one_refusal h.netlist a b h.refused (subst (λ (n : Netlist). IsRefused n b) netlist k.refused)

-- what is built is not what is not built
built_once : (bytes : List ℕ) (p q : Project) (n : Netlist) → SaysProject bytes p → SaysProject bytes q → IsBuilt p n → ((m : Netlist) → IsBuilt q m → ⊥) → ⊥
built_once bytes p q n says_p says_q built none = none n (subst (λ (r : Project). IsBuilt r n) (one_project bytes p q says_p says_q) built)

-- one thing is due, and no other
abbrev pub OneOf : (Due → Type 0) → Type 0
OneOf P = (due : Due) × P due × ((other : Due) → P other → other ≡ due)

-- where there is a reason for none, there is no text
pub no_text : (bytes : List ℕ) (why : Stop) (text : List ℕ) → IsNoModule bytes why → IsExportText bytes text → ⊥
no_text bytes why text (Deep h e) t = deep_says_none bytes t.project h t.says
no_text bytes why text (NoProject h e) t = h.says_none t.project t.says
no_text bytes why text (Unbuilt project says none e) t = built_once bytes t.project project t.netlist t.says says t.built none
no_text bytes why text (Unaccepted fault h e) t =
    let netlist : t.netlist ≡ h.netlist = same_netlist bytes h.project t.project h.netlist t.netlist h.says t.says h.built t.built in
    accepted_not_refused h.netlist fault (subst IsAccepted netlist t.accepted) h.refused

-- the reasons exclude each other
one_reason : (bytes : List ℕ) (a b : Stop) → IsNoModule bytes a → IsNoModule bytes b → a ≡ b
one_reason bytes a b (Deep h e) (Deep k f) = e ∙ sym f
one_reason bytes a b (Deep h e) (NoProject k f) = absurd (k.not_deep h)
one_reason bytes a b (Deep h e) (Unbuilt project says none f) = absurd (deep_says_none bytes project h says)
one_reason bytes a b (Deep h e) (Unaccepted fault k f) = absurd (deep_says_none bytes k.project h k.says)
one_reason bytes a b (NoProject h e) (Deep k f) = absurd (h.not_deep k)
one_reason bytes a b (NoProject h e) (NoProject k f) = e ∙ sym f
one_reason bytes a b (NoProject h e) (Unbuilt project says none f) = absurd (h.says_none project says)
one_reason bytes a b (NoProject h e) (Unaccepted fault k f) = absurd (h.says_none k.project k.says)
one_reason bytes a b (Unbuilt project says none e) (Deep k f) = absurd (deep_says_none bytes project k says)
one_reason bytes a b (Unbuilt project says none e) (NoProject k f) = absurd (k.says_none project says)
one_reason bytes a b (Unbuilt project says none e) (Unbuilt other says_other none_other f) = e ∙ sym f
one_reason bytes a b (Unbuilt project says none e) (Unaccepted fault k f) = absurd (built_once bytes k.project project k.netlist k.says says k.built none)
one_reason bytes a b (Unaccepted fault h e) (Deep k f) = absurd (deep_says_none bytes h.project k h.says)
one_reason bytes a b (Unaccepted fault h e) (NoProject k f) = absurd (k.says_none h.project h.says)
one_reason bytes a b (Unaccepted fault h e) (Unbuilt project says none f) = absurd (built_once bytes h.project project h.netlist h.says says h.built none)
one_reason bytes a b (Unaccepted fault h e) (Unaccepted other k f) = e ∙ (ap not_accepted_stop (one_refused bytes fault other h k) ∙ sym f)

of_module : (file bytes : List ℕ) → TextOrNot bytes → OneOf (IsModuleDue file bytes)
of_module file bytes (inl (text, t)) = (Writes Done text, (refl, t), λ other h. same other h)
  where
    same : (other : Due) → IsModuleDue file bytes other → other ≡ Writes Done text
    same (Writes s text') h = ap (λ (x : Status). Writes x text') h.0 ∙ ap (Writes Done) (one_printed bytes text text' t h.1)
    same (Stops why about) h = absurd (no_text bytes why text h.0 t)
of_module file bytes (inr (stop, none)) = (Stops stop file, (none, refl), λ other h. same other h)
  where
    same : (other : Due) → IsModuleDue file bytes other → other ≡ Stops stop file
    same (Writes s text') h = absurd (no_text bytes stop text' none h.1)
    same (Stops why about) h = ap (λ (x : Stop). Stops x about) (one_reason bytes why stop h.0 none) ∙ ap (Stops stop) h.1

pub of_file : (file : List ℕ) (found : Option (List ℕ)) → OneOf (IsExportDue file found)
of_file file None = (Stops (Input Missing) file, refl, λ other h. h)
of_file file (Some bytes) = by_limit (nat_lt GREATEST_LENGTH (length bytes)) refl
  where
    by_limit : (b : Bool) → nat_lt GREATEST_LENGTH (length bytes) ≡ b → OneOf (λ due. MatchBool b (due ≡ Stops (Input TooLong) file) (IsModuleDue file bytes due))
    by_limit true e = (Stops (Input TooLong) file, refl, λ other h. h)
    by_limit false e = of_module file bytes (text_or_not bytes (ltb-false GREATEST_LENGTH (length bytes) e))

-- ---- the rows of a module

-- a fault that is told is not want of memory
told_rows : (fault : RowsFault) → IsDeserved (rows_stop fault) → fault ≢ rows_fault.Memory
told_rows fault d e = subst (λ (f : RowsFault). IsDeserved (rows_stop f)) e d

told_module : (fault : ModuleFault) → IsDeserved (module_stop fault) → fault ≢ module_fault.Memory
told_module fault d e = subst (λ (f : ModuleFault). IsDeserved (module_stop f)) e d

same_outputs : (m : Module) → IsValid m → (file bytes : List ℕ) (a b : Due) → IsOutputsDue m file bytes a → IsOutputsDue m file bytes b → a ≡ b
same_outputs m valid file bytes (Writes s text) (Writes t other) h k = ap (λ (x : Status). Writes x text) (h.0 ∙ sym k.0) ∙ ap (Writes t) (one_text m valid bytes text other h.1 k.1)
same_outputs m valid file bytes (Writes s text) (Stops why about) h (k, e) = absurd (no_rows_fault m valid bytes text k.0 (told_rows k.0 k.2) k.1 h.1)
same_outputs m valid file bytes (Stops why about) (Writes s text) (h, e) k = absurd (no_rows_fault m valid bytes text h.0 (told_rows h.0 h.2) h.1 k.1)
same_outputs m valid file bytes (Stops why about) (Stops other subject) (h, e) (k, f) =
    let fault : h.0 ≡ k.0 = one_rows_fault m valid bytes h.0 k.0 (told_rows h.0 h.2) (told_rows k.0 k.2) h.1 k.1 in
    ap (λ (x : Stop). Stops x about) (h.3 ∙ (ap rows_stop fault ∙ sym k.3)) ∙ ap (Stops other) (e ∙ sym f)

same_rows : (m : Module) → IsValid m → (file : List ℕ) (found : Option (List ℕ)) (a b : Due) → IsRowsDue m file found a → IsRowsDue m file found b → a ≡ b
same_rows m valid file None a b h k = h ∙ sym k
same_rows m valid file (Some bytes) a b h k = by (nat_lt ROWS_LENGTH (length bytes)) h k
  where
    by : (long : Bool) → MatchBool long (a ≡ Stops (Input TooLong) file) (IsOutputsDue m file bytes a) → MatchBool long (b ≡ Stops (Input TooLong) file) (IsOutputsDue m file bytes b) → a ≡ b
    by true h k = h ∙ sym k
    by false h k = same_outputs m valid file bytes a b h k

same_valid : (of_module of_rows bytes : List ℕ) (rows : Option (List ℕ)) (a b : Due) → IsValidDue of_module of_rows bytes rows a → IsValidDue of_module of_rows bytes rows b → a ≡ b
same_valid of_module of_rows bytes rows a b (OnModule m v h) (OnModule n w k) =
    let same : n ≡ m = one_valid bytes n m w v in
    same_rows m v.valid of_rows rows a b h (subst (λ (n : Module). IsRowsDue n of_rows rows b) same k)
same_valid of_module of_rows bytes rows a b (OnModule m v h) (NoModule fault is d e) = absurd (no_module_fault bytes m fault (told_module fault d) is v)
same_valid of_module of_rows bytes rows a b (NoModule fault is d e) (OnModule m v h) = absurd (no_module_fault bytes m fault (told_module fault d) is v)
same_valid of_module of_rows bytes rows a b (NoModule fault is d e) (NoModule other also g f) =
    let same : fault ≡ other = one_module_fault bytes fault other (told_module fault d) (told_module other g) is also in
    e ∙ (ap (λ (f : ModuleFault). Stops (module_stop f) of_module) same ∙ sym f)

same_vrun : (of_module of_rows : List ℕ) (found rows : Option (List ℕ)) (a b : Due) → IsVrunDue of_module of_rows found rows a → IsVrunDue of_module of_rows found rows b → a ≡ b
same_vrun of_module of_rows None rows a b h k = h ∙ sym k
same_vrun of_module of_rows (Some bytes) rows a b h k = by (nat_lt MODULE_LENGTH (length bytes)) h k
  where
    by : (long : Bool) → MatchBool long (a ≡ Stops (Input TooLong) of_module) (IsValidDue of_module of_rows bytes rows a) → MatchBool long (b ≡ Stops (Input TooLong) of_module) (IsValidDue of_module of_rows bytes rows b) → a ≡ b
    by true h k = h ∙ sym k
    by false h k = same_valid of_module of_rows bytes rows a b h k

-- ---- all commands

same_command : (c : Command) (held : Held) (a b : Due) → IsCommandDue c (Some held) a → IsCommandDue c (Some held) b → a ≡ b
same_command (Export file) held a b (found, finds, h) (other, finds_other, k) =
    let one = of_file file found in
    one.2 a h ∙ sym (one.2 b (subst (λ (o : Option (List ℕ)). IsExportDue file o b) (sym finds_other ∙ finds) k))
same_command (Vrun of_module of_rows) held a b (found, rows, finds, finds_rows, h) (other, others, finds_other, finds_others, k) =
    same_vrun of_module of_rows found rows a b h
    (subst (λ (o : Option (List ℕ)). IsVrunDue of_module of_rows o rows b) (sym finds_other ∙ finds) (subst (λ (o : Option (List ℕ)). IsVrunDue of_module of_rows other o b) (sym finds_others ∙ finds_rows) k))

same_for : (asked : Option Command) (held : Held) (a b : Due) → IsDueFor asked (Some held) a → IsDueFor asked (Some held) b → a ≡ b
same_for None held a b h k = h ∙ sym k
same_for (Some c) held a b h k = same_command c held a b h k

-- at most one thing is due
pub same_due : (words : List (List ℕ)) (held : Held) (a b : Due) → IsDue words (Some held) a → IsDue words (Some held) b → a ≡ b
same_due words held a b h k = same_for (command_of words) held a b h k

-- a fault that is not want of memory is told
module_deserved : (fault : ModuleFault) → fault ≢ module_fault.Memory → IsDeserved (module_stop fault)
module_deserved module_fault.NotSubset known = tt
module_deserved (module_fault.NotValid rule) known = tt
module_deserved (module_fault.Cyclic wire) known = tt
module_deserved module_fault.Memory known = absurd (known refl)

vector_deserved : (fault : VectorFault) → fault ≢ vector.Memory → IsDeserved (vector_stop fault)
vector_deserved (vector.NotVector line) known = tt
vector_deserved (vector.NoPin name) known = tt
vector_deserved (vector.PinWidth name) known = tt
vector_deserved (vector.PinClash name) known = tt
vector_deserved vector.TooManyRows known = tt
vector_deserved (vector.MissingPin name) known = tt
vector_deserved vector.Memory known = absurd (known refl)

rows_deserved : (m : Module) (bytes : List ℕ) (fault : RowsFault) → fault ≢ rows_fault.Memory → IsRowsFault m bytes fault → IsDeserved (rows_stop fault)
rows_deserved m bytes (rows_fault.Vector fault) known is = vector_deserved fault is.0
rows_deserved m bytes (rows_fault.Undefined row) known is = tt
rows_deserved m bytes rows_fault.Memory known is = absurd (known refl)

-- rows on a module have a text or a reason
some_rows : (m : Module) → IsValid m → (file : List ℕ) (found : Option (List ℕ)) → (due : Due) × IsRowsDue m file found due
some_rows m valid file None = (Stops (Input Missing) file, refl)
some_rows m valid file (Some bytes) = by (nat_lt ROWS_LENGTH (length bytes)) (rows_or_fault m valid bytes)
  where
    by : (long : Bool) → ((text : List ℕ) × IsRowsText m bytes text) ⊎ ((fault : RowsFault) × (fault ≢ rows_fault.Memory) × IsRowsFault m bytes fault)
        → (due : Due) × MatchBool long (due ≡ Stops (Input TooLong) file) (IsOutputsDue m file bytes due)
    by true told = (Stops (Input TooLong) file, refl)
    by false (inl (text, is)) = (Writes Done text, (refl, is))
    by false (inr (fault, known, is)) = (Stops (rows_stop fault) file, ((fault, is, rows_deserved m bytes fault known is, refl), refl))

some_vrun : (of_module of_rows : List ℕ) (found rows : Option (List ℕ)) → (due : Due) × IsVrunDue of_module of_rows found rows due
some_vrun of_module of_rows None rows = (Stops (Input Missing) of_module, refl)
some_vrun of_module of_rows (Some bytes) rows = by (nat_lt MODULE_LENGTH (length bytes)) refl
  where
    on : ((m : Module) × IsValidText bytes m) ⊎ ((fault : ModuleFault) × (fault ≢ module_fault.Memory) × IsModuleFault bytes fault)
        → (due : Due) × IsValidDue of_module of_rows bytes rows due
    on (inl (m, text)) = let so = some_rows m text.valid of_rows rows in (so.0, OnModule m text so.1)
    on (inr (fault, known, is)) = (Stops (module_stop fault) of_module, NoModule fault is (module_deserved fault known) refl)

    by : (long : Bool) → nat_lt MODULE_LENGTH (length bytes) ≡ long
        → (due : Due) × MatchBool long (due ≡ Stops (Input TooLong) of_module) (IsValidDue of_module of_rows bytes rows due)
    by true e = (Stops (Input TooLong) of_module, refl)
    by false e = on (module_or_fault bytes (ltb-false MODULE_LENGTH (length bytes) e))

-- and something is
pub some_due : (words : List (List ℕ)) (held : Held) → (due : Due) × IsDue words (Some held) due
some_due words held = by (command_of words)
  where
    by : (asked : Option Command) → (due : Due) × IsDueFor asked (Some held) due
    by None = (Stops Usage [], refl)
    by (Some (Export file)) = let one = of_file file (held file) in (one.0, (held file, refl, one.1))
    by (Some (Vrun of_module of_rows)) = let one = some_vrun of_module of_rows (held of_module) (held of_rows) in (one.0, (held of_module, held of_rows, refl, refl, one.1))

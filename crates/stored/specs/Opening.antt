-- An index opened, as its callers see it. Assumes nothing.
use Rattle.std.specs.Prelude.{◌≡◌, Result, Ok, Err, IsErrAnd, List, ℕ, ◌*◌, take}
use Rattle.std.proofs.Common.{ap, sym, subst, ◌∙◌}
use Rattle.std.proofs.lemmas.Result.{err_from_is_err_and}
use Rattle.truss.specs.Graph.{Graph}
use Rattle.truss.specs.Record.{kind_index_head}
use Rattle.truss.specs.LinksFile.{read_head}
use Rattle.truss.specs.Refusal.{Checked, passed, refuse}
use Rattle.truss.specs.IndexFile.{read_index}
use Rattle.limits.specs.declared.refusal.Refusal.{Refusal}
use Rattle.limits.specs.declared.refusal.Refusal.TheVariants.{NoIndex}
use Rattle.limits.specs.Refusals.{number_of, checked}
use Rattle.columns.specs.Columns.{COLUMNS}
use Rattle.columns.specs.Wiping.{zeros}
use Rattle.stored.specs.declared.opened.Index.{Index}
use Rattle.stored.specs.Rows.{graph_in}

-- the graph whose index it is
abbrev pub graph : Index → Graph
graph i = graph_in i.bytes.now

-- bytes that are an index, which is they, with a blank work space for its links; or that are none
unfoldable pub Opens : List ℕ → Result Index Refusal → List ℕ → Type 0
Opens b (Ok i) work = (i.bytes.now ≡ b) × (read_index b ≡ passed (graph_in b)) × (take (COLUMNS * i.m) work ≡ zeros (COLUMNS * i.m))
Opens b (Err e) work = (e ≡ NoIndex) × (read_index b ≡ refuse 7 0)

-- the answer, read
pub opens_ok : (b : List ℕ) {r : Result Index Refusal} {i : Index} (work : List ℕ) → Opens b r work → r ≡ Ok i → (read_index b ≡ passed (graph i)) × (take (COLUMNS * i.m) work ≡ zeros (COLUMNS * i.m))
unfolding Opens
opens_ok b {r} {i} work O q =
    let o = subst (λ x. Opens b x work) q O in
    (o.1 ∙ ap {B = Checked Graph} (λ x. passed (graph_in x)) (sym o.0), o.2)

pub opens_err : (b : List ℕ) {r : Result Index Refusal} {e : Refusal} (work : List ℕ) → Opens b r work → r ≡ Err e → (e ≡ NoIndex) × (read_index b ≡ refuse 7 0)
unfolding Opens
opens_err b {r} {e} work O q = subst (λ x. Opens b x work) q O

-- what `?` hands on is the same refusal
pub handed : {A : Type 0} (r : Result A Refusal) (e : Refusal) → IsErrAnd r (λ x. x ≡ e) → checked r ≡ refuse (number_of e) 0
unfolding checked
handed {A} r e h =
    let p = err_from_is_err_and r h in
    ap checked p.1 ∙ ap {B = Checked A} (λ x. refuse (number_of x) 0) p.2

pub handed_no_index : {A : Type 0} (b : List ℕ) {o : Result Index Refusal} {e : Refusal} (work : List ℕ) (r : Result A Refusal) → Opens b o work → o ≡ Err e → IsErrAnd r (λ x. x ≡ e) → checked r ≡ refuse 7 0
unfolding number_of
handed_no_index {A} b work r O q h = handed r _ h ∙ ap {B = Checked A} (λ x. refuse (number_of x) 0) (opens_err b work O q).0

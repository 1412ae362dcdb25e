-- How a list ends: all lines were put (`listed`), or the sink failed while it took them (`broken`).
use Rattle.std.proofs.Common.{◌≡◌, sym, subst, [], Ok, Err, append-nil, arith}
use Rattle.std.specs.Prelude.{Result, IfErr, IsErrAnd}
use Rattle.stack_model.specs.Listing.{Stacked}
use Rattle.node_list.specs.declared.walk.ListFault.{ListFault}
use Rattle.node_list.specs.declared.walk.ListFault.TheVariants.{Write}
use Rattle.node_list.specs.Lines.{lines}
use Rattle.node_list.specs.Faults.{Lists, IsBrokenOff}
use Rattle.node_list.specs.Walks.{Passage, Puts}
use Rattle.node_list.proofs.Gaining.{all_put, front_lost, gains_more, gains_same, puts_more, puts_same}

-- all lines were put, and then nothing is on its way
pub listed : {X Y E F : Type 0} {x : X} {y : Y} {u v w : Passage} (table : Stacked)
    → Puts {E = E} (Ok x) u v (lines table) → Puts {E = F} (Ok y) v w [] → u.waiting ≡ [] → w.waiting ≡ []
    → Lists table u.sink w.sink
listed table p q before after =
    let a = p.counted.1 in
    let b = q.counted.1 in
    record {
      gained = all_put (gains_same (append-nil (lines table)) (gains_more p.gained q.gained)) before after;
      flushed = omega (arith, a, b);
    }

-- all lines were put, and those still on their way were not handed on
pub broken : {X Y Z E F : Type 0} {x : X} {f : F} {u v w : Passage} (table : Stacked) (r : Result Z ListFault)
    → IsErrAnd r (λ fault. fault ≡ Write) → Puts {E = E} (Ok x) u v (lines table)
    → Puts {X = Y} (Err f) v w [] → u.waiting ≡ [] → IfErr r (IsBrokenOff table u.sink w.sink)
broken table (Ok z) is p q before = tt
broken {u = u} {w = w} table (Err fault) is p q before =
    let both = puts_same (append-nil (lines table)) (puts_more p q) in
    subst (IsBrokenOff table u.sink w.sink) (sym is) (both.counted, front_lost both.lost before)

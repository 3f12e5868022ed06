-- One edge more, which stays or doesn't.
use Rattle.std.proofs.Common.{◌≡◌, ◌<◌, ◌≤◌, ◌+◌, ℕ, Bool, true, false, Global, Vec, drop, get_or, length, set, take, sym, ap, ◌∙◌, arith, length-set}
use Rattle.std.proofs.lemmas.List.{get_or_read}
use Rattle.std.proofs.lemmas.Grind.{drop_more_same}
use Rattle.machine_defs.specs.declared.flow.Edge.{Edge}
use Rattle.machine_defs.specs.declared.flow.EdgeKind.TheVariants.{Next}
use Rattle.machine_defs.specs.Program.{edge}
use Rattle.return_search.specs.Stays.{stays}
use Rattle.return_search.proofs.Dropping.{dropped_one, kept_one, rest_one, same_at}
use Rattle.return_search.proofs.kept_edges.keep_others.Goals as goal
use Rattle.return_search.proofs.kept_edges.keep_others.Goals.{then-stays_there, else-stays_there}

pub loop-i-preserved : goal.loop-i-preserved
loop-i-preserved c =
    let old = c.args.edges.now.items in
    let now = c.loop-i.edges.items in
    let i = c.loop-i.i in
    let e = c.index-edge.result.now in
    let inside : i < length old = omega (arith, c.loop-i-test.true, c.requires.inside) in
    let read : e ≡ get_or old i (edge 0 Next) = get_or_read now i e (omega (arith, inside, c.loop-i.invariant.long)) c.index-edge.ensures (edge 0 Next) ∙ same_at now old i (edge 0 Next) c.loop-i.invariant.rest in
    let stays_so : Edge → Bool = λ x. stays false x.kind in
    let ordered : c.args.from ≤ i = omega arith in
    elim c.if-stays_there.branch [
      | then-stays_there w ↦
          let items : c.if-stays_there.edges.items ≡ set now c.loop-i.end e = ap (λ (v : Vec Edge Global). v.items) w.edges-is in
          let yes : stays false e.kind ≡ true = sym c.stays_there.ensures ∙ w.if-stays_there.true in
          record {
            kept = ap (λ (k : ℕ). take k c.if-stays_there.edges.items) w.end-is ∙ (ap (take (c.loop-i.end + 1)) items ∙ kept_one stays_so old now c.args.from i e (edge 0 Next) ordered inside read c.args.kept c.loop-i.end c.loop-i.invariant.within c.loop-i.invariant.long yes c.loop-i.invariant.kept);
            rest = ap (drop (i + 1)) items ∙ rest_one stays_so old now c.args.from i e (edge 0 Next) ordered inside read c.loop-i.end c.loop-i.invariant.within c.loop-i.invariant.rest;
            long = ap length items ∙ (length-set now c.loop-i.end e ∙ c.loop-i.invariant.long);
            within = omega (arith, w.end-is, c.loop-i.invariant.within);
          }
      | else-stays_there w ↦
          let items : c.if-stays_there.edges.items ≡ now = ap (λ (v : Vec Edge Global). v.items) w.edges-is in
          let no : stays false e.kind ≡ false = sym c.stays_there.ensures ∙ w.if-stays_there.false in
          record {
            kept = ap (λ (k : ℕ). take k c.if-stays_there.edges.items) w.end-is ∙ (ap (take c.loop-i.end) items ∙ dropped_one stays_so old now c.args.from i e (edge 0 Next) ordered inside read c.args.kept c.loop-i.end no c.loop-i.invariant.kept);
            rest = ap (drop (i + 1)) items ∙ drop_more_same now old i c.loop-i.invariant.rest;
            long = ap length items ∙ c.loop-i.invariant.long;
            within = omega (arith, w.end-is, c.loop-i.invariant.within);
          }
    ]

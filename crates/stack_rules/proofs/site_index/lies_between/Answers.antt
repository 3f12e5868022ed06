-- The site before is the last that begins at the place or before it, and doesn't hold it.
use Rattle.std.proofs.Common.{◌≡◌, ℕ, true, List, length, arith, sym, ◌∙◌}
use Rattle.program_graph.specs.declared.parts.GraphSite.{GraphSite}
use Rattle.stack_rules.proofs.Finding.{none_between}
use Rattle.stack_rules.proofs.site_index.lies_between.Goals as goal
use Rattle.stack_rules.proofs.site_index.lies_between.Goals.{else-near-ne0-via-then-near-ne0+else-not-is_behind, else-near-ne0-via-else-near-ne0}

none : GraphSite
none = record { start = record { sec = 0; off = 0 }; len = 0 }

pub returns-then-near-sites-2 : goal.returns-then-near-sites-2
unfolding none
returns-then-near-sites-2 c same apart =
    let sites : List GraphSite = c.args.sites.now in
    let near : ℕ = c.args.near in
    let last : near ≡ length sites = c.if-near-sites-2.true in
    none_between sites c.args.place near none c.requires apart (omega (arith, last))
    (λ some. elim c.else-near-ne0.branch [
      | else-near-ne0-via-then-near-ne0+else-not-is_behind w ↦
          let behind : w.is_behind.result ≡ true = (let h = w.if-not-is_behind.false in grind arith) in
          (w.is_behind.ensures.start behind, w.is_behind.ensures.outside behind)
      | else-near-ne0-via-else-near-ne0 w ↦ absurd (omega (arith, some, w.if-near-ne0.false))
    ])
    (λ more. absurd (omega (arith, last, more)))

pub returns-else-near-sites-2 : goal.returns-else-near-sites-2
unfolding none
returns-else-near-sites-2 c before apart =
    let sites : List GraphSite = c.args.sites.now in
    let near : ℕ = c.args.near in
    none_between sites c.args.place near none c.requires apart (omega (arith, c.if-near-sites.false))
    (λ some. elim c.else-near-ne0.branch [
      | else-near-ne0-via-then-near-ne0+else-not-is_behind w ↦
          let behind : w.is_behind.result ≡ true = (let h = w.if-not-is_behind.false in grind arith) in
          (w.is_behind.ensures.start behind, w.is_behind.ensures.outside behind)
      | else-near-ne0-via-else-near-ne0 w ↦ absurd (omega (arith, some, w.if-near-ne0.false))
    ])
    (λ more. sym c.is_before.ensures ∙ before)

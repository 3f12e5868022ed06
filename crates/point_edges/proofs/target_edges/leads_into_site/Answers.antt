use Rattle.point_edges.proofs.Parts.{or_first, or_second}
use Rattle.point_edges.proofs.target_edges.leads_into_site.Goals as goal

pub returns-then-table_enters : goal.returns-then-table_enters
returns-then-table_enters c = or_first _ _ _ c.if-table_enters.true c.table_enters.ensures

pub returns-else-table_enters : goal.returns-else-table_enters
returns-else-table_enters c = or_second _ _ _ _ c.if-table_enters.false c.table_enters.ensures c.has_entry_in_site.ensures

use Rattle.std.proofs.Common.{subst}
use Rattle.x86_text.specs.Code.{Body, code_of}
use Rattle.x86_text.specs.Listed.{IsListing}
use Rattle.x86_text.proofs.text.Text.table_jumps.Goals as goal

pub returns-clause-some : goal.returns-clause-some
returns-clause-some c =
    let listing : IsListing c.args.self.now (code_of c.args.self.now) = subst (λ (body : Body). IsListing body (code_of body)) c.self.view_is c.self.invariant.listing in
    listing.some

pub returns-clause-whole : goal.returns-clause-whole
returns-clause-whole c =
    let listing : IsListing c.args.self.now (code_of c.args.self.now) = subst (λ (body : Body). IsListing body (code_of body)) c.self.view_is c.self.invariant.listing in
    listing.whole

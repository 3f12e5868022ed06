use Rattle.std.proofs.Common.{subst}
use Rattle.x86_text.specs.Code.{Body, code_of}
use Rattle.x86_text.specs.Listed.{IsListing}
use Rattle.x86_text.proofs.ListingLemmas.{boundaries_listed, listing_is_code}
use Rattle.x86_text.proofs.text.Text.count.Goals as goal

listing : (c : goal.After-len) → IsListing c.args.self.now (code_of c.args.self.now)
listing c = subst (λ (body : Body). IsListing body (code_of body)) c.self.view_is c.self.invariant.listing

pub returns-clause-code : goal.returns-clause-code
returns-clause-code c = listing_is_code c.args.self.now (code_of c.args.self.now) (listing c)

pub returns-clause-boundaries : goal.returns-clause-boundaries
returns-clause-boundaries c = boundaries_listed c.args.self.now (code_of c.args.self.now) (listing c)

pub returns-clause-some : goal.returns-clause-some
returns-clause-some c = (listing c).some

pub returns-clause-whole : goal.returns-clause-whole
returns-clause-whole c = (listing c).whole

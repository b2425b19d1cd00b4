-- `chain::between::lead_in` meets its contract. Assumes nothing.
use native.Mathlib.Omega.{arith}
use Rattle.chain.specs.Between.{lead_given, lead_mark, lead_search, lead_none, lead_done}
use Rattle.chain.proofs.between.lead_in.Goals as goal

pub lists-requires : goal.lists-requires
lists-requires c = let P = c.requires.1 in record { name_asks = (c.requires.0, P.given.named); start_len = P.long; next_len = P.wide }

pub get-a-requires : goal.get-a-requires
get-a-requires c = let P = c.requires.1 in record { c_bound = omega arith; i_lt_m = P.f_in; w_len = (lead_given P (c.lists.ensures.0 _ P.given.named)).named.size }

pub mark_all-requires : goal.mark_all-requires
mark_all-requires c = let P = c.requires.1 in
    (c.requires.0, lead_mark P (c.lists.ensures.0 _ P.given.named) c.get-a.ensures.0 _ c.lists.ensures.1 c.lists.auto.next)

pub search-requires : goal.search-requires
search-requires c = let P = c.requires.1 in
    let L = c.lists.ensures.0 _ P.given.named in
    let M = c.mark_all.ensures _ (lead_mark P L c.get-a.ensures.0 _ c.lists.ensures.1 c.lists.auto.next) in
    (c.requires.0, lead_search P L c.get-a.ensures.0 M)

pub get-x-requires : goal.get-x-requires
get-x-requires c = let P = c.requires.1 in let L = c.lists.ensures.0 _ P.given.named in let M = c.mark_all.ensures _ (lead_mark P L c.get-a.ensures.0 _ c.lists.ensures.1 c.lists.auto.next) in record { c_bound = omega arith; i_lt_m = P.e_in; w_len = (c.search.ensures _ (lead_search P L c.get-a.ensures.0 M)).given.named.size }

pub returns-then-x-eq0 : goal.returns-then-x-eq0
returns-then-x-eq0 c = λ G P.
    let L = c.lists.ensures.0 G P.given.named in
    let M = c.mark_all.ensures G (lead_mark P L c.get-a.ensures.0 _ c.lists.ensures.1 c.lists.auto.next) in
    lead_none P (c.search.ensures G (lead_search P L c.get-a.ensures.0 M)) c.get-x.ensures.0 c.if-x-eq0.true

pub returns : goal.returns
returns c = λ G P.
    let L = c.lists.ensures.0 G P.given.named in
    let M = c.mark_all.ensures G (lead_mark P L c.get-a.ensures.0 _ c.lists.ensures.1 c.lists.auto.next) in
    lead_done P (c.search.ensures G (lead_search P L c.get-a.ensures.0 M)) c.get-x.ensures.0

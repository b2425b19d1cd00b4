-- That what specs/Spelled.antt states holds.
use Rattle.std.specs.Prelude.{◌≡◌, refl, ◌⊎◌, ◌↔◌, Bool, true, false, not, List, ◌∷◌, map, ℕ, suc, ◌*◌, ◌<◌, min, length, get_or, set, ℤ, pos}
use Rattle.std.proofs.Common.{sym, ap, ◌∙◌, subst, inl, inr, arith}
use mathlib.Core.List.{Memᴰ as In}
use Rattle.std.proofs.Math.Nat.{min_comm, max_comm}
use Rattle.truss.specs.Limits.{min_level, max_level}
use Rattle.truss.specs.Lists.{same_list}
use Rattle.truss.specs.Graph.{Pair, Graph, link, link_of, graph_of, member}
use Rattle.truss.specs.Support.{nothing, and_one}
use Rattle.truss.specs.Group.{Group, groups}
use Rattle.truss.specs.Refusal.{Checked, passed, refused, refuse, refuse_if, and_then}
use Rattle.truss.specs.LinksFile.{Links, accepted, graph_of_links, read_links, write_links, pairs_of, read_back}
use Rattle.truss.specs.Index.{encode, index_bytes}
use Rattle.truss.specs.IndexFile.{links_file_in, if_index_is, read_index}
use Rattle.truss.specs.Question.{Question, ask_groups_at, ask_strongest, ask_all, accounts_in, answer, empty_group, holds, is_group_at, groups_holding, strongest_holding, all_holding}
use Rattle.truss.specs.Call.{Asked, answer_bytes, answer_value, answer_second, settle, checked_answer}
use Rattle.truss.specs.Demand3.{Builds, AllOrNone}
use Rattle.truss.specs.Firmness.{IsFirmness}
use Rattle.truss.specs.Order.{ListedBefore, stronger, larger, earlier, InOrder, and_first, WellCounted, Inside, Level, Means, means_C, means_D, means_E, C_count, C_outside, C_level, D_count, D_outside, E_count, E_outside, OrderRule}
use Rattle.truss.specs.Order.{nothing as no_group_lem}
use Rattle.truss.specs.Listing.{rows, listing_text}
use Rattle.truss.specs.Lone.{LoneRule}
use Rattle.truss.specs.Change.{put_in, withdraw}
use Rattle.truss.specs.Changes.{Tells, moved, put_outside, put_equal, put_again, put_full, withdraw_outside, withdraw_none, none, one}
use Rattle.truss.specs.Bets.{DayRecord, bet, new_limit, margin_of, groups_of, Tried, try_limit, records_in, margin_at, try_limit_bytes}
use Rattle.truss.specs.Trial.{ByteIs, taken as is-taken, not_taken, limited, Sound, sound_bet, sound_limit, RecordFault, outside as bet-outside, stake, limit, DayFault, level, many, opened, recorded, NoFault, Closes, TrialRule}
use Rattle.truss.specs.Spelled.{ListsAll, BeforeCases, TrialRefused, Opens, InRange, AllInRange, ByteSaid, Done, Spelled}

first_of : {G : Graph} {i : ℕ} {is : List ℕ} → InOrder G (i ∷ is) → ((j : ℕ) → In j is → ListedBefore G (get_or (groups G) i empty_group) (get_or (groups G) j empty_group)) × InOrder G is
first_of (and_first f o) = (f, o)

before_cases : {G : Graph} {g h : Group} → ListedBefore G g h → BeforeCases G g h
unfolding holds
before_cases (stronger p) = inl p
before_cases (larger p q) = inr (inl (p, q))
before_cases (earlier p q r) = inr (inr (p, q, r))

cases_before : {G : Graph} {g h : Group} → BeforeCases G g h → ListedBefore G g h
unfolding holds
cases_before (inl p) = stronger p
cases_before (inr (inl (p, q))) = larger p q
cases_before (inr (inr (p, q, r))) = earlier p q r

only_one : {G : Graph} {g h : Group} → ((x y : Group) → ListedBefore G x y → ¬ ListedBefore G y x) → ListedBefore G g h ⊎ ListedBefore G h g
    → (ListedBefore G g h × (¬ ListedBefore G h g)) ⊎ (ListedBefore G h g × (¬ ListedBefore G g h))
only_one {G} {g} {h} one_way (inl p) = inl (p, one_way g h p)
only_one {G} {g} {h} one_way (inr p) = inr (p, one_way h g p)

no_level : (k : ℕ) → (k < min_level) ⊎ (max_level < k) → ¬ Level k
no_level k (inl l) (a, b) = omega arith
no_level k (inr l) (a, b) = omega arith

-- bytes are an index, or are refused by 7
pass_or_7 : (bytes : List ℕ) → ((G : Graph) × (read_index bytes ≡ passed G)) ⊎ (read_index bytes ≡ refuse 7 0)
unfolding read_index if_index_is
pass_or_7 bytes = of (read_links (links_file_in bytes))
  where
    at : (G : Graph) (t : Bool) → ((H : Graph) × (refuse_if t 7 0 (passed G) ≡ passed H)) ⊎ (refuse_if t 7 0 (passed G) ≡ refuse 7 0)
    at G true = inr refl
    at G false = inl (G, refl)

    of : (x : Checked Links) → ((G : Graph) × (if_index_is bytes x ≡ passed G)) ⊎ (if_index_is bytes x ≡ refuse 7 0)
    of (passed l) = at (graph_of_links l) (not (same_list (index_bytes (graph_of_links l)) bytes))
    of (refused r) = inr refl

not_kind_1 : LoneRule → (bytes : List ℕ) → get_or bytes 0 0 ≡ 1 → ((G : Graph) × (read_index bytes ≡ passed G)) ⊎ (read_index bytes ≡ refuse 7 0) → read_index bytes ≡ refuse 7 0
not_kind_1 r bytes q (inl (G, h)) = absurd (omega (arith, q, (r.pairs bytes G h).begins))
not_kind_1 r bytes q (inr s) = s

-- a pair either way round is the same link
same_link_lem : {a b c d : ℕ} → ((c ≡ a) × (d ≡ b)) ⊎ ((c ≡ b) × (d ≡ a)) → link c d ≡ link a b
same_link_lem (inl (p, q)) = rw (p, q) refl
same_link_lem {a} {b} (inr (p, q)) = rw (p, q) (λ i. record { lo = min_comm b a i; hi = max_comm b a i })

-- what a rule gives for one row it gives for every row that is listed
rule_lists : OrderRule → (bytes : List ℕ) (G : Graph) (q : Question) (is js : List ℕ) → read_index bytes ≡ passed G → Means G q is → ((i : ℕ) → In i js ↔ In i is) → InOrder G js → ListsAll bytes q js
rule_lists r bytes G q is js h m same o =
    let (js', L, W) = r.gives bytes G q is h m in
    let e = r.only G is js' js L same o in
    subst (ListsAll bytes q) e (λ buffer w tallies l. (W.fits buffer w tallies l, W.short buffer w tallies l))

-- ---- a limit tried on a day's bets

range_sound : (G : Graph) (r : DayRecord) → InRange G r → Sound G r
range_sound G (bet a s) (l, low, high) = sound_bet l low high
range_sound G (new_limit x) l = sound_limit l

sound_range : (G : Graph) (r : DayRecord) → Sound G r → InRange G r
sound_range G (bet a s) (sound_bet l low high) = (l, low, high)
sound_range G (new_limit x) (sound_limit l) = l

no_fault : (G : Graph) (k opening : ℕ) (rs : List DayRecord) → Opens k opening rs → AllInRange G rs (length rs) → NoFault G k opening rs
no_fault G k opening rs (low, high, few, o) all = record { is_level = (low, high); few = few; in_range = o; sound = λ j l. range_sound G (get_or rs j (new_limit 0)) (all j l) }

-- the first record that is not in range
fault_at : TrialRule → (bytes : List ℕ) (G : Graph) (k opening : ℕ) (rs : List DayRecord) (i r : ℕ) → read_index bytes ≡ passed G → Opens k opening rs → i < length rs → AllInRange G rs i
    → RecordFault G (get_or rs i (new_limit 0)) r → TrialRefused bytes k opening rs r
fault_at t bytes G k opening rs i r h (low, high, few, o) l before w taken margins =
    t.faulty bytes G k opening rs taken margins r h (recorded (low, high) few o i l (λ j u. range_sound G (get_or rs j (new_limit 0)) (before j u)) w)

out_of_range : {G : Graph} {r : DayRecord} {a s x : ℕ} → ((r ≡ bet a s) × (a < G.n) × ((s < 1) ⊎ (1_000_000 < s))) ⊎ ((r ≡ new_limit x) × (1_000_000_000 < x)) → RecordFault G r 15
out_of_range (inl (q, l, w)) = rw q (stake l w)
out_of_range (inr (q, l)) = rw q (limit l)

fault_or_range : (G : Graph) (k opening : ℕ) (rs : List DayRecord) → ((r : ℕ) × DayFault G k opening rs r) ⊎ NoFault G k opening rs
    → ((r : ℕ) × DayFault G k opening rs r) ⊎ (Opens k opening rs × AllInRange G rs (length rs))
fault_or_range G k opening rs (inl w) = inl w
fault_or_range G k opening rs (inr n) = inr ((n.is_level.0, n.is_level.1, n.few, n.in_range), λ j l. sound_range G (get_or rs j (new_limit 0)) (n.sound j l))

byte_said : (G : Graph) (k opening : ℕ) (rs : List DayRecord) (bytes : List ℕ) (i : ℕ) → ByteIs G k opening rs bytes i → ByteSaid G k opening rs bytes i (get_or rs i (new_limit 0))
unfolding margin_of
byte_said G k opening rs bytes i (is-taken q r b) = rw q (inl ((r.every_group, r.by_itself), b))
byte_said G k opening rs bytes i (not_taken q n b) = rw q (inr ((λ (e, a). n (record { every_group = e; by_itself = a })), b))
byte_said G k opening rs bytes i (limited q b) = rw q b

day_done : {A : Type 0} (G : Graph) (k opening : ℕ) (rs : List DayRecord) (margin : List A → ℕ → ℤ) (width : ℕ) (past : A) (taken : List ℕ) (margins : List A) (t : Tried A)
    → Closes G k opening rs margin width past taken margins t → Done G k opening rs margin width past taken margins t
day_done G k opening rs margin width past taken margins t c = (
  c.reply,
  (λ i l. byte_said G k opening rs t.taken i (c.bytes i l)),
  (λ j l. (c.closing j l, c.within j l)),
  c.bytes_after,
  c.closing_after,
  c.lengths.0,
  c.lengths.1,
)

alike : {A B C : Type 0} → AllOrNone A B C → (A ↔ B) × (A ↔ C)
alike (inl (a, b, c)) = ((λ _. b, λ _. a), (λ _. c, λ _. a))
alike (inr (na, nb, nc)) = ((λ a. absurd (na a), λ b. absurd (nb b)), (λ a. absurd (na a), λ c. absurd (nc c)))

-- the index of an accepted file tells what the file names
told : (file : List ℕ) (n : ℕ) (ps : List Pair) → read_links file ≡ accepted n ps → Tells (index_bytes (graph_of n ps)) n (member (map link_of ps))
told file n ps h = record { pairs = ps; is_index = record { file = file; file_accepted = h; bytes = refl }; names = λ e. (λ m. m, λ m. m) }

pub spelled : Spelled
unfolding moved settle answer_bytes answer_value answer_second checked_answer and_then accounts_in encode write_links pairs_of read_back read_links rows holds listing_text answer groups_of is_group_at
spelled = record {
  same_index = λ d file file' n n' ps ps' b b' lent lent' h r w h' r' w'.
      let s = (d file file' n n' ps ps' b b' h h' (record { lent = lent; not_refused = r; written = w }) (record { lent = lent'; not_refused = r'; written = w' })).same_index in
      (λ q. ((s.0 q).same_accounts, (s.0 q).same_pairs), λ (p, q). s.1 (record { same_accounts = p; same_pairs = q }));
  all_agree = λ d file n ps b lent h r w e f he hf ne k l u.
      let x : Builds file b = record { lent = lent; not_refused = r; written = w } in
      alike ((d file file n n ps ps b b h h x x).agrees e f he hf ne k l u);
  only_short_memory = λ o. o;
  strength_and_triangles = λ r bytes G a b buffer w tallies h l m s i ts o t.
      let (s', x', f, q) = r.gives bytes G a b buffer w tallies h l m in
      let same = r.only G (link a b) s' s x' (length ts) f (record {
        strength_is = i;
        support_is = record { holding = ts; are_holding = record { once = o; only = λ u k. (t u).0 k; all = λ u k v. (t u).1 (k, v) }; count_is = refl };
      }) in
      q ∙ (λ i. record { reply = record { refusal = 0; value = same.0 i; second = same.1 i; third = 0 }; buffer = buffer; tallies = set tallies w (min (suc (get_or tallies w 0)) 4_294_967_295) });
  strength_9 = λ r. r.outside;
  strength_11 = λ r. r.no_link_lem;
  once_nothing = nothing;
  once_one_more = λ t ts n o. and_one n o;
  at_strength_2 = λ r bytes G a b buffer w tallies h l m q.
      let (s', x', f, p) = r.gives bytes G a b buffer w tallies h l m in
      ap (λ (y : Asked). y.reply.second) p
      ∙ r.weak bytes G (link a b) x' h (subst (λ (y : ℕ). IsFirmness G (link a b) y x') (sym (ap (λ (y : Asked). y.reply.value) p) ∙ q) f);
  from_3_up = λ r bytes G a b buffer w tallies h l m u.
      let (s', x', f, p) = r.gives bytes G a b buffer w tallies h l m in
      omega (arith, ap (λ (y : Asked). y.reply.value) p, ap (λ (y : Asked). y.reply.second) p, r.firm bytes G (link a b) s' x' h f);
  reply_A = λ x y. refl;
  reply_B = λ x. refl;
  reply_list = λ xs. refl;
  reply_chain = λ ts. refl;
  reply_length = λ x. refl;
  nothing_A = λ x y. refl;
  nothing_B = λ x. refl;
  answered = λ a buffer w tallies. refl;
  turned_back = λ r buffer w tallies. refl;
  no_index = λ bytes q buffer r h. rw h refl;
  named_none = refl;
  named_next = λ x y b. refl;
  lists_C = λ r bytes G k named c js h some few even inside low high same o.
      rule_lists r bytes G (ask_groups_at k named) (groups_holding G k (accounts_in named)) js h (means_C (c, some, few, even) inside (low, high)) same o;
  lists_D = λ r bytes G named c js h some few even inside same o. rule_lists r bytes G (ask_strongest named) (strongest_holding G (accounts_in named)) js h (means_D (c, some, few, even) inside) same o;
  lists_E = λ r bytes G named c js h some few even inside same o. rule_lists r bytes G (ask_all named) (all_holding G (accounts_in named)) js h (means_E (c, some, few, even) inside) same o;
  listed_row = λ r bytes G named c h some few even inside.
      let (js, L, W) = r.gives bytes G (ask_all named) (all_holding G (accounts_in named)) h (means_E (c, some, few, even) inside) in
      (js, L.same, L.count, L.in_order);
  row_empty = λ G. no_group_lem;
  row_first = λ G i is. ((λ o. first_of o), (λ p. and_first p.0 p.1));
  before_is = λ G g h. ((λ p. before_cases p), (λ x. cases_before x));
  one_is_first = λ r G i j li lj n. only_one (r.one_way G) (r.total G i j li lj n);
  before_onward = λ r. r.onward;
  list_8 = λ r bytes G k named h n.
      let bad : ¬ WellCounted named = λ (c, some, few, q). n c some few q in
      (r.refuses bytes G (ask_groups_at k named) 8 h (C_count bad), r.refuses bytes G (ask_strongest named) 8 h (D_count bad), r.refuses bytes G (ask_all named) 8 h (E_count bad));
  list_9 = λ r bytes G k named c v h some few q m l.
      let good : WellCounted named = (c, some, few, q) in
      let bad : ¬ Inside G named = λ f. let z = f v m in omega (arith, z, l) in
      (r.refuses bytes G (ask_groups_at k named) 9 h (C_outside good bad), r.refuses bytes G (ask_strongest named) 9 h (D_outside good bad), r.refuses bytes G (ask_all named) 9 h (E_outside good bad));
  list_10 = λ r bytes G k named c h some few q inside l. r.refuses bytes G (ask_groups_at k named) 10 h (C_level (c, some, few, q) inside (no_level k l));
  shortest_way = λ w file n ps h k e f. let x = w file n ps h k e f in (x.given, x.only, x.none);
  with_itself = λ w file n ps h k e. let x = w file n ps h k e e in ((λ l s. let y = x.itself l s in (y.t, y.one, y.strong, y.holds, y.first)), x.itself_none);
  no_triangle = λ w file n ps h k e f l s j. (w file n ps h k e f).one_case l (record { strong = s; joined = j });
  chain_written = λ w file n ps h k e f. let x = w file n ps h k e f in (x.rising, x.room);
  in_group_is = λ G k e f. ((λ x. (x.strong, x.joined)), (λ p. record { strong = p.0; joined = p.1 }));
  lone_is = λ r bytes G h. (r.pairs bytes G h).in_none;
  joined_to_itself = λ r bytes G h. (r.pairs bytes G h).itself;
  B_with_itself = λ r bytes G a b c d buffer w tallies s h l m q i. (r.pairs bytes G h).joined_itself a b c d buffer w tallies s l m (same_link_lem q) i;
  lone_group = λ r bytes G h i l s. let x = r.pairs bytes G h in (x.own_group_lem i l s, λ j k u. x.holds_no_other i j l k s u);
  no_more_at_2 = λ r bytes G h. (r.pairs bytes G h).no_more;
  each_named = λ r bytes G h. (r.pairs bytes G h).named;
  groups_at_2 = λ r bytes G h. (r.pairs bytes G h).at_2;
  C_at_2 = λ r bytes G h. (r.pairs bytes G h).C_at_2;
  joined_at_2 = λ r bytes G h. (r.pairs bytes G h).joined_at_2;
  B_up_to = λ r bytes G h. (r.pairs bytes G h).up_to;
  F_links = λ r bytes G h. (r.pairs bytes G h).group_links_lem;
  index_room = λ r bytes G h. (r.pairs bytes G h).room;
  index_begins = λ r bytes G h. (r.pairs bytes G h).begins;
  kind_1_meets_7 = λ r bytes q. not_kind_1 r bytes q (pass_or_7 bytes);
  links_begin = λ r. r.links_begin;
  kind_7_links = λ b. refl;
  index_written = λ x. refl;
  file_written = λ n ps. refl;
  file_read_back = λ G. refl;
  lister_rows = λ G. refl;
  lister_lines = λ rs. refl;
  asked_B = λ G a b c d. refl;
  asked_F = λ G k a b. refl;
  asked_G = λ G k a b c d. refl;
  tallies_of_a_run = λ r. r;
  record_of_a_run = λ r. r;
  no_window = λ r. r.above;
  any_window = λ r. r.within;
  record_of_tallies = λ r. r.whole;
  short_record = λ r. r.short;
  change_7 = λ r. r.no_index;
  change_9 = λ r bytes buffer G a b h o. (r.faulty (put_in a b) bytes buffer G 9 h (put_outside o), r.faulty (withdraw a b) bytes buffer G 9 h (withdraw_outside o));
  change_5 = λ r bytes buffer G a b h la lb q. r.faulty (put_in a b) bytes buffer G 5 h (put_equal la lb q);
  change_14 = λ r bytes buffer G a b h la lb ne m. r.faulty (put_in a b) bytes buffer G 14 h (put_again la lb ne m);
  change_3 = λ r bytes buffer G a b h la lb ne m f. r.faulty (put_in a b) bytes buffer G 3 h (put_full la lb ne m f);
  change_11 = λ r bytes buffer G a b h la lb m. r.faulty (withdraw a b) bytes buffer G 11 h (withdraw_none la lb m);
  put_in_built = λ r file file' buffer n ps ps' a b h h' m s. r.puts a b (index_bytes (graph_of n ps)) buffer file' n ps' (member (map link_of ps)) (told file n ps h) m h' s;
  withdraw_built = λ r file file' buffer n ps ps' a b h h' m s. r.withdraws a b (index_bytes (graph_of n ps)) buffer file' n ps' (member (map link_of ps)) (told file n ps h) m h' s;
  change_only = λ r. r.only;
  tells_links = λ r. r.tells_passed;
  tells_built = λ r. r.tells_built;
  index_tells = λ r. r.passed_tells;
  no_step = λ x S. none;
  any_step = λ c x buffer y w S T k R. one c buffer w k R;
  put_in_set = λ a b S e. refl;
  withdrawn_set = λ a b S e. refl;
  refused_change = λ k. k.change;
  sequence_tells = λ r. r;
  trial_7 = λ t bytes k opening rs h taken margins. t.no_index bytes k opening rs taken margins h;
  trial_10 = λ t bytes G k opening rs h l taken margins. t.faulty bytes G k opening rs taken margins 10 h (level (no_level k l));
  trial_16 = λ t bytes G k opening rs h low high l taken margins. t.faulty bytes G k opening rs taken margins 16 h (many (low, high) l);
  trial_15 = λ t bytes G k opening rs h low high few l taken margins. t.faulty bytes G k opening rs taken margins 15 h (opened (low, high) few l);
  trial_record_9 = λ t bytes G k opening rs i a s h o l before q u. fault_at t bytes G k opening rs i 9 h o l before (rw q (bet-outside u));
  trial_record_15 = λ t bytes G k opening rs i a s x h o l before w. fault_at t bytes G k opening rs i 15 h o l before (out_of_range w);
  trial_12 = λ t bytes G k opening rs taken margins h o all s. t.short bytes G k opening rs taken margins h (no_fault G k opening rs o all) s;
  trial_only = λ t G k opening rs. fault_or_range G k opening rs (t.fault_or_none G k opening rs);
  trial_done = λ t bytes G k opening rs taken margins h o all lt lm.
      day_done G k opening rs (λ zs j. get_or zs j (pos 0)) 1 (pos 0) taken margins (try_limit bytes k opening rs taken margins)
      (t.closes bytes G k opening rs taken margins h (no_fault G k opening rs o all) lt lm);
  trial_done_bytes = λ t bytes G k opening records taken margins h o all lt lm.
      day_done G k opening (records_in records) (λ b j. margin_at b (j * 8)) 8 0 taken margins (try_limit_bytes bytes k opening records taken margins)
      (t.closes_bytes bytes G k opening records taken margins h (no_fault G k opening (records_in records) o all) lt lm);
  trial_bytes = λ t. t.as_bytes;
  refused_trial = λ k. k.try_limit_lem;
  refused_trial_bytes = λ k. k.try_limit_bytes_lem;
  groups_at_k = λ G k. refl;
  group_of_link = λ t bytes G k i j h low high m. t.each_group bytes G k i h (low, high) j m;
  links_of_group = λ t bytes G k g h low high m. t.each_link bytes G k g h (low, high) m;
}

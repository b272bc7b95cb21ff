-- The nodes that send are the senders that were gathered.
use Rattle.std.proofs.Common.{◌≡◌, Bool, true, false, cond, List, [], ◌∷◌, Some, refl, sym, ap, subst, ◌∙◌}
use Rattle.std.specs.Prelude.{◌||◌}
use Rattle.std.specs.declared.cmp.Ordering.{Ordering}
use Rattle.std.specs.BTreeMap.{is_at}
use Rattle.std.specs.BTreeSet.{BTreeSet, contains}
use Rattle.std.specs.List.{list_any}
use Rattle.std.specs.Option.{is_some}
use Rattle.babel_prefix.proofs.Insertion.{is_at-sym}
use Rattle.babel_capture.specs.Tallies.{Senders, origin_cmp, tally_of}
use Rattle.babel_capture.specs.declared.tallies.Origin.{Origin}
use Rattle.babel_capture.specs.declared.tallies.Tally.{Tally}
use Rattle.babel_capture.proofs.TallyLaws.{origin_total}
use Rattle.babel_dump.specs.Nodes.{node_cmp, node_of, origin_of}
use Rattle.babel_dump.specs.declared.node.Node.{Node}

-- the nodes so far, and the senders that are left, are all senders
abbrev pub AreSoFar : BTreeSet Node → (left all : Senders) → Type 0
AreSoFar nodes left all = (q : Node) → (contains node_cmp nodes q || is_some (tally_of left (origin_of q))) ≡ is_some (tally_of all (origin_of q))

by_first : (a c : Bool) (entry : Origin × Tally) (rest : Senders) (q : Node) → ((a || c) || is_some (tally_of rest (origin_of q)))
    ≡ (c || is_some (cond a (Some entry.1) (tally_of rest (origin_of q))))
by_first false c entry rest q = refl
by_first true true entry rest q = refl
by_first true false entry rest q = refl

pub next_sender : (nodes new : BTreeSet Node) (left rest all : Senders) (entry : Origin × Tally) → AreSoFar nodes left all → left ≡ entry ∷ rest
    → ((q : Node) → contains node_cmp new q ≡ (is_at (node_cmp (node_of entry.0)) q || contains node_cmp nodes q)) → AreSoFar new rest all
next_sender nodes new left rest all entry before is more = λ q.
    let here : Bool = is_at (origin_cmp entry.0) (origin_of q) in
    ap (λ (b : Bool). b || is_some (tally_of rest (origin_of q))) (more q)
    ∙ by_first here (contains node_cmp nodes q) entry rest q
    ∙ ap (λ (b : Bool). contains node_cmp nodes q || is_some (cond b (Some entry.1) (tally_of rest (origin_of q)))) (is_at-sym origin_total entry.0 (origin_of q))
    ∙ ap (λ (l : Senders). contains node_cmp nodes q || is_some (tally_of l (origin_of q))) (sym is)
    ∙ before q

-- at first all are left, and in the end none
pub none_yet : (nodes : BTreeSet Node) (left all : Senders) → nodes.keys ≡ [] → left ≡ all → AreSoFar nodes left all
none_yet nodes left all none is = λ q.
    ap (λ (keys : List Node). list_any (is_at (node_cmp q)) keys || is_some (tally_of left (origin_of q))) none
    ∙ ap (λ (l : Senders). is_some (tally_of l (origin_of q))) is

or_false : (b : Bool) → b ≡ (b || false)
or_false true = refl
or_false false = refl

pub all_sent : (nodes : BTreeSet Node) (left all : Senders) → AreSoFar nodes left all → left ≡ [] → (q : Node) → contains node_cmp nodes q ≡ is_some (tally_of all (origin_of q))
all_sent nodes left all so none = λ q.
    or_false (contains node_cmp nodes q) ∙ ap (λ (l : Senders). contains node_cmp nodes q || is_some (tally_of l (origin_of q))) (sym none) ∙ so q

-- a node that is put in
abbrev Puts : (Node → Node → Ordering) → (nodes new : BTreeSet Node) → Node → Type 0
Puts cmp nodes new node = (q : Node) → contains cmp new q ≡ cond (is_at (cmp node) q) true (contains cmp nodes q)

either_of : (a b : Bool) → cond a true b ≡ (a || b)
either_of true b = refl
either_of false b = refl

pub node_put : (cmp : Node → Node → Ordering) (nodes new : BTreeSet Node) (node : Node) (origin : Origin) → cmp ≡ node_cmp → node ≡ node_of origin → Puts cmp nodes new node
    → (q : Node) → contains node_cmp new q ≡ (is_at (node_cmp (node_of origin)) q || contains node_cmp nodes q)
node_put cmp nodes new node origin order of puts = λ q.
    subst (λ (n : Node). Puts node_cmp nodes new n) of (subst (λ (k : Node → Node → Ordering). Puts k nodes new node) order puts) q
    ∙ either_of (is_at (node_cmp (node_of origin)) q) (contains node_cmp nodes q)

-- Which chain a sequence of drafting calls makes, and which refusal each call gives.
use Rattle.std.specs.Prelude.{◌≡◌, ℕ, cond, List, [], ◌∷◌, ◌++◌, Some, None, Ok, Err, vec_items, Option, Result, ◌==◌, nat_le, nat_lt}
use Rattle.chain.specs.declared.stages.Pin.{Pin}
use Rattle.chain.specs.declared.stages.Pin.TheVariants.{Free, Board}
use Rattle.chain.specs.declared.stages.Stage.{Stage}
use Rattle.chain.specs.declared.chains.Chain.{Chain}
use Rattle.chain.specs.declared.headings.Heading.{Heading}
use Rattle.chain.specs.declared.refusals.DraftRefusal.{DraftRefusal}
use Rattle.chain.specs.declared.drafts.AwaitingStage.{AwaitingStage}
use Rattle.chain.specs.declared.drafts.AwaitingMessage.{AwaitingMessage}
use Rattle.chain.specs.declared.drafts.GivenBack.{GivenBack}
use Rattle.chain.specs.declared.drafts.StartError.{StartError}
use Rattle.chain.specs.declared.drafts.StartError.TheVariants.{Refused, NoMemory}
use Rattle.chain.specs.Limits.{length_kept, times_kept}
use Rattle.chain.specs.Refusals.{Described, described, first_of, numbered, unless}

-- What a draft or a chain says, read off its type.
pub record Contents : Type 0 where
  pub name : ℕ
  pub period : ℕ
  pub deadline : ℕ
  pub stages : List Stage
  pub messages : List ℕ

-- what a chain says, given its heading and its rows
abbrev pub says : Heading → List Stage → List ℕ → Contents
says h stages messages = record { name = h.name; period = h.period; deadline = h.deadline; stages = stages; messages = messages }

module _ {S B : ℕ} where
  abbrev pub contents : Chain S B → Contents
  contents c = says c.heading (vec_items c.stages) (vec_items c.messages)

  abbrev pub waiting : AwaitingStage S B → Contents
  waiting d = says d.heading (vec_items d.stages) (vec_items d.messages)

  abbrev pub staged : AwaitingMessage S B → Contents
  staged d = contents d.chain

-- a pin as it is written: 0 leaves the stage free
abbrev pub pin_of : ℕ → Pin
pin_of p = cond (p == 0) Free (Board p)

-- each drafting step
abbrev pub started : (name period deadline : ℕ) → Contents
started n p d = record { name = n; period = p; deadline = d; stages = []; messages = [] }

abbrev pub with_stage : Contents → (pin length : ℕ) → Contents
with_stage c pin l = record { name = c.name; period = c.period; deadline = c.deadline; stages = c.stages ++ (record { pin = pin_of pin; length = l }) ∷ []; messages = c.messages }

abbrev pub with_message : Contents → (length : ℕ) → Contents
with_message c l = record { name = c.name; period = c.period; deadline = c.deadline; stages = c.stages; messages = c.messages ++ l ∷ [] }

-- what is wrong with the numbers of each drafting call, if anything
abbrev pub length_refusal : ℕ → Option Described
length_refusal l = unless (length_kept l) (numbered 2 (l ∷ []))

abbrev pub start_refusal : (name period deadline : ℕ) → Option Described
start_refusal n p d = first_of (unless (nat_le 1 n) (numbered 6 []) ∷ unless (times_kept p d) (numbered 1 (p ∷ d ∷ [])) ∷ [])

abbrev pub stage_refusal : (boards pin length : ℕ) → Option Described
stage_refusal boards pin l = first_of (unless (nat_le pin boards) (numbered 3 (pin ∷ [])) ∷ length_refusal l ∷ [])

abbrev pub message_refusal : (most stages length : ℕ) → Option Described
message_refusal most stages l = first_of (unless (nat_lt stages most) (numbered 4 []) ∷ length_refusal l ∷ [])

-- The answer of making a heading: one of just these numbers where nothing is wrong with them.
abbrev pub Headed : (name period deadline : ℕ) → Result Heading DraftRefusal → Type 0
Headed name period deadline (Ok h) =
    (start_refusal name period deadline ≡ None) × (h.name ≡ name) × (h.period ≡ period) × (h.deadline ≡ deadline)
Headed name period deadline (Err why) = start_refusal name period deadline ≡ Some (described why)

-- The answer of a drafting call on a draft, `why` being what is wrong with its numbers: a next
-- draft with P where nothing is; else just that refusal, and the draft as it was.
abbrev pub Answers : {D N : Type 0} → Option Described → D → (N → Type 0) → Result N (GivenBack D) → Type 0
Answers why d P (Ok n) = (why ≡ None) × P n
Answers why d P (Err e) = (why ≡ Some (described e.why)) × (e.draft ≡ d)

-- The answer of the call that starts a draft: want of memory only where nothing is wrong.
abbrev pub Starts : {N : Type 0} → Option Described → (N → Type 0) → Result N StartError → Type 0
Starts why P (Ok n) = (why ≡ None) × P n
Starts why P (Err NoMemory) = why ≡ None
Starts why P (Err (Refused w)) = why ≡ Some (described w)

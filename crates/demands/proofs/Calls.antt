-- Calls of evaluation: there is one for any lent bytes, and its end is settled.
use mathlib.Core.Path.{◌≡◌, refl, sym, ap, ◌∙◌}
use Rattle.rules.specs.Answers.{Lent, evaluate_answer, leaves_one, leaves_two, leaves_outs}
use Rattle.demands.specs.Calls.{AllBytesLent, Call}

-- every lent memory of bytes has a call: the contract can be met
abbrev pub call_of : (l : Lent) → AllBytesLent l → Call
call_of l bytes = record {
  lent = l;
  answer = evaluate_answer l;
  one = leaves_one l;
  two = leaves_two l;
  outs = leaves_outs l;
  bytes = bytes;
  promise = record { answer_is = refl; one_is = refl; two_is = refl; outs_are = refl };
}

-- it is a call of that memory
pub call_of_lent : (l : Lent) (bytes : AllBytesLent l) → (call_of l bytes).lent ≡ l
call_of_lent l bytes = refl

-- document 01, "What has to be stated": any two answers that the statement allows are the same
pub one_end : (a b : Call) → a.lent ≡ b.lent
    → (a.answer ≡ b.answer) × ((a.one ≡ b.one) × ((a.two ≡ b.two) × (a.outs ≡ b.outs)))
one_end a b e = (
  a.promise.answer_is ∙ ap evaluate_answer e ∙ sym b.promise.answer_is,
  (
    a.promise.one_is ∙ ap leaves_one e ∙ sym b.promise.one_is,
    (
      a.promise.two_is ∙ ap leaves_two e ∙ sym b.promise.two_is,
      a.promise.outs_are ∙ ap leaves_outs e ∙ sym b.promise.outs_are,
    ),
  ),
)

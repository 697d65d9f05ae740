-- What was read of tokens is read of more.
use Rattle.std.proofs.Common.{ℕ, ◌≤◌, List, ◌++◌, length, sym, subst, arith, length-append}
use Rattle.std.proofs.lemmas.List.{take-append-le}
use Rattle.jsh_tree.specs.declared.token.Token.{Token}
use Rattle.jsh_recognizer.specs.Recognizing.{kinds}
use Rattle.jsh_recognizer.specs.Stacks.{frames_of}
use Rattle.jsh_complete.specs.declared.reading.Reader.{Reader}
use Rattle.jsh_complete.specs.Completeness.{IsSnippet}
use Rattle.jsh_complete.specs.Reading.{IsBehind, IsLongest, HasRead}

longest_of_more : (ts more : List Token) (most longest : ℕ) → most ≤ length ts → IsLongest ts most longest → IsLongest (ts ++ more) most longest
longest_of_more ts more most longest few is = (
  is.0,
  λ some. subst (λ x. IsSnippet (kinds x)) (sym (take-append-le longest ts more (omega (arith, few, is.0)))) (is.1 some),
  λ m lt le snip. is.2 m lt le (subst (λ x. IsSnippet (kinds x)) (take-append-le m ts more (omega (arith, few, le))) snip),
)

pub read_of_more : (ts more : List Token) (reader : Reader) → HasRead ts reader → HasRead (ts ++ more) reader
read_of_more ts more reader is = record {
  few = omega (arith, is.few, length-append ts more);
  behind = subst (λ x. IsBehind (kinds x) (frames_of reader.recognizer.stack)) (sym (take-append-le reader.taken ts more is.few)) is.behind;
  longest = longest_of_more ts more reader.taken reader.longest is.few is.longest;
}

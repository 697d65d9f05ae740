use Rattle.std.proofs.lemmas.List.{append_assoc}
use Rattle.jsh_render.proofs.refusals.refusal_text.Goals as goal

pub returns-in_ok-format-in-NotOwner : goal.returns-in_ok-format-in-NotOwner
returns-in_ok-format-in-NotOwner c = rw c.in-NotOwner.is (simp append_assoc c.in_ok-format-in-NotOwner.ensures.ok)

pub returns-in_ok-format-in-NotLive : goal.returns-in_ok-format-in-NotLive
returns-in_ok-format-in-NotLive c = rw c.in-NotLive.is (simp append_assoc (rw c.fate_word-fate.ensures at c.in_ok-format-in-NotLive.ensures.ok))

pub returns-in_ok-format-in-NoSuchName : goal.returns-in_ok-format-in-NoSuchName
returns-in_ok-format-in-NoSuchName c = rw c.in-NoSuchName.is (simp append_assoc (rw c.as_str-name.ensures at c.in_ok-format-in-NoSuchName.ensures.ok))

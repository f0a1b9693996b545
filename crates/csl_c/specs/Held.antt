-- What an engine owns by its pointer: a box with what it keeps; nothing if it is closed. And how the
-- logic stores what an engine keeps.
use base.Fml.{Fml, feq}
use denote.RawPtr.{Ptr, null_ptr}
use Rattle.std.specs.declared.alloc.Global.{Global}
use Rattle.std.specs.Coded.{Coded, coded_option}
use Rattle.std.specs.declared.option.Option.{Option}
use Rattle.std.specs.declared.option.Option.TheVariants.{None, Some}
use Rattle.std.specs.contracts.impls.GlobalAllocator.TheImpl.{ghosts}
use Rattle.std_alloc.specs.Box.Ownership.{box_owns}
use Rattle.csl_session.specs.declared.conversation.Conversation.{Conversation}
use Rattle.csl_session.specs.contracts.conversation.Conversation.{the_row}

abbrev pub held : Global → Ptr → Option Conversation → Fml
held a p None = feq Ptr p null_ptr
held a p (Some k) = box_owns (ghosts.dealloc_token a) the_row p k

abbrev pub kept_code : Coded (Option Conversation)
kept_code = coded_option the_row.coded

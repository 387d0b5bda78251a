-- View: the value of a crew, and its invariant (own).
use Rattle.std.specs.Prelude.{All, ◌≡◌, false}
use Rattle.segment_crew.specs.Crews.{CrewSeen, HasBegunItsClaims}
use Rattle.segment_crew.specs.Teams.{IsIdleWorker, IsNewLead, emitter_member, members_of}
use Rattle.segment_crew.specs.declared.crew.Crew.TheInside.{Inside}

-- its segments are those of the emitter's seat
abbrev pub crew_of : Inside → CrewSeen
crew_of c = record {
  segments = c.emitter.seat.content;
  emitter = emitter_member c.emitter;
  team = members_of c.team.items;
  used = c.used;
}

-- each began as many segments as it claimed; until it is used its seats and decoders are new ones of its board
pub record IsCrew (c : Inside) : Type 0 where
  pub first : c.first ≡ c.emitter.seat.content.first
  pub count : c.count ≡ c.emitter.seat.content.count
  pub emitter : HasBegunItsClaims (emitter_member c.emitter)
  pub team : All HasBegunItsClaims (members_of c.team.items)
  pub new : c.used ≡ false → IsNewLead c.board c.emitter.seat.content c.emitter
  pub idle : c.used ≡ false → All (IsIdleWorker c.board c.emitter.seat.content) c.team.items

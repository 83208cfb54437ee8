pub mod OnePacket
pub mod PacketAnswers
pub mod Packets
pub mod Unit
pub mod Answers
pub mod Claim

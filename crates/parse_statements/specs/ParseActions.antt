pub use Rattle.parse_actions.specs.ChannelParse as ChannelParse

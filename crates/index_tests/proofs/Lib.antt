mod ShownLemmas
mod FollowLemmas
